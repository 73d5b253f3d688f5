-- The shortcut layer: nodes of four patterns are read at once. Assumes nothing.
use Rattle.std.specs.Prelude.{ℕ, ◌+◌, ◌-◌, Bool, true, false, cond, not, ◌&&◌, ◌||◌, List, map, length, replicate, ℤ, pos, ◌-ℤ◌, neg_ℤ, ◌==◌, int_lt, nat_lt, slice_index, slice_index_or, slice_set, unsigned_abs}
use Rattle.polar.specs.Words.{trues, parity}
use Rattle.polar.specs.Labels.{label}
use Rattle.polar.specs.Codewords.{tree_of}
use Rattle.soft.specs.Kind.{Kind, Score}
use Rattle.readers.specs.Readings.{Reading, capped}
use Rattle.scored_readers.specs.ExhaustiveReading.{word_score, best}
use Rattle.scored_readers.specs.declared.pattern.Pattern.{Pattern}
use Rattle.scored_readers.specs.declared.pattern.Pattern.TheVariants.{Frozen, Full, Check, Single, Other}

-- all but the first of two or more leaves are active
abbrev pub first_frozen : List Bool → Bool
first_frozen ms = not (slice_index_or ms 0 false) && (nat_lt 1 (length ms) && trues ms + 1 == length ms)

-- the first pattern that fits: no active leaf, all, all but the first, just one
abbrev pub pattern_of : List Bool → Pattern
pattern_of ms =
    cond (trues ms == 0) Frozen
    (cond (trues ms == length ms) Full
    (cond (first_frozen ms) Check
    (cond (trues ms == 1) Single Other)))

-- whether the layer reads it itself
abbrev pub known : Pattern → Bool
known Frozen = true
known Full = true
known Check = true
known Single = true
known Other = false

abbrev pub zero_label : List Bool → List Bool
zero_label ms = replicate (length ms) false

-- how far apart the two scores of a value lie
abbrev pub score_width : {K : Type 0} → Score K → ℕ → K → ℕ
score_width score turns v = unsigned_abs (score v true turns -ℤ score v false turns)

-- how close the two scores of the value at a place lie: the opposite of their width
abbrev pub closeness : {K : Type 0} → Score K → ℕ → List K → ℕ → ℤ
closeness score turns values i = neg_ℤ (pos (slice_index (map (score_width score turns) values) i))

-- the first place whose two scores lie closest
abbrev pub weakest : {K : Type 0} → Score K → ℕ → List K → ℕ
weakest score turns values = best (closeness score turns values) (length values - 1)

-- each symbol decided, and the weakest turned if their sum is odd
abbrev pub even_answer : {K : Type 0} → Kind K → Score K → ℕ → List K → List Bool
even_answer kind score turns values =
    let word = map kind.decided values in
    let place = weakest score turns values in
    cond (parity word) (slice_set word place (not (slice_index_or word place false))) word

-- the label of the one active leaf if it beats the zero label
abbrev pub single_answer : {K : Type 0} → Score K → List Bool → ℕ → List K → List Bool
single_answer score ms turns values =
    let leaf_label = label (tree_of ms) ms in
    cond (int_lt (word_score score turns values (zero_label ms)) (word_score score turns values leaf_label)) leaf_label (zero_label ms)

abbrev pub pattern_answer : {K : Type 0} → Kind K → Score K → Reading K → Pattern → List Bool → ℕ → List K → List Bool
pattern_answer kind score below Frozen ms turns values = zero_label ms
pattern_answer kind score below Full ms turns values = map kind.decided values
pattern_answer kind score below Check ms turns values = even_answer kind score turns values
pattern_answer kind score below Single ms turns values = single_answer score ms turns values
pattern_answer kind score below Other ms turns values = below.answer ms turns values

-- it takes what the reader below takes too, and tells a row of bits more
abbrev pub shortcut_reading : {K : Type 0} → Kind K → Score K → Reading K → Reading K
shortcut_reading kind score below = record {
  taking = λ ms. known (pattern_of ms) || below.taking ms;
  answer = λ ms. pattern_answer kind score below (pattern_of ms) ms;
  soft_need = below.soft_need;
  bit_need = λ n. capped (below.bit_need n + n);
}
