-- The shortcut keeps the rules of a reader, if the reader below does. Assumes nothing.
use Rattle.std.specs.Prelude.{◌≡◌, ℕ, suc, ◌+◌, ◌-◌, ◌^◌, ◌<◌, ◌≤◌, Bool, true, false, cond, ◌||◌, List, [], ◌∷◌, map, length, ℤ, ◌≤ℤ◌, ◌==◌, ◌≢◌, int_lt, nat_lt, slice_index_or, refl}
use Rattle.std.proofs.Common.{sym, ap, subst, ◌∙◌, arith}
use Rattle.std.proofs.lemmas.List.{length-map}
use Rattle.std.proofs.lemmas.Bool.{eqb-true, and_parts, cond_both, false≢true, ne_eqb, eq-eqb, lt-ltb, le-leb}
use Rattle.soft.specs.Kind.{Kind, Score, AllFair}
use Rattle.polar.specs.Shape.{leaves}
use Rattle.polar.specs.Words.{trues, parity}
use Rattle.polar.specs.Labels.{unlabel}
use Rattle.polar.specs.Marks.{Clear, Codeword}
use Rattle.polar.specs.Codewords.{tree_of}
use Rattle.polar.proofs.Shapes.{leaves_balanced, left_heavy_balanced}
use Rattle.polar.proofs.Sums.{trues_bound}
use Rattle.polar.proofs.Label.{length_unlabel, label_unlabel}
use Rattle.polar.proofs.Relation.{parity_label}
use Rattle.readers.specs.Readings.{Reading, ReaderRules, Posed, Near}
use Rattle.readers.specs.Node.{posed_turns}
use Rattle.scored_readers.specs.ExhaustiveReading.{data_word, word_score, best, exhaustive_answer}
use Rattle.scored_readers.specs.ShortcutReading.{first_frozen, pattern_of, known, zero_label, even_answer, single_answer, pattern_answer, shortcut_reading}
use Rattle.scored_readers.specs.declared.pattern.Pattern.{Pattern}
use Rattle.scored_readers.specs.declared.pattern.Pattern.TheVariants.{Frozen, Full, Check, Single, Other}
use Rattle.scored_readers.specs.Numbers.{zero_word, lone_word}
use Rattle.scored_readers.specs.Scores.{near_outscores}
use Rattle.scored_readers.specs.ExhaustiveRules.{exhaustive_rules}
use Rattle.scored_readers.specs.Decisions.{decided_most, length_even, answer_even, even_most}

-- ---- the patterns

pattern_cases : (ms : List Bool) (P : Pattern → Type 0)
    → (trues ms ≡ 0 → P Frozen) → (trues ms ≡ length ms → P Full) → (first_frozen ms ≡ true → P Check) → (trues ms ≡ 1 → P Single) → P Other → P (pattern_of ms)
pattern_cases ms P frozen full check single other =
    cond_both (trues ms == 0) _ _ P (λ e. frozen (eqb-true _ _ e)) (λ _.
    cond_both (trues ms == length ms) _ _ P (λ e. full (eqb-true _ _ e)) (λ _.
    cond_both (first_frozen ms) _ _ P check (λ _.
    cond_both (trues ms == 1) _ _ P (λ e. single (eqb-true _ _ e)) (λ _. other))))

pub pattern_check : (ms : List Bool) → (trues ms ≢ 0) → (trues ms ≢ length ms) → slice_index_or ms 0 false ≡ false → 1 < length ms → trues ms + 1 ≡ length ms
    → Check ≡ pattern_of ms
pattern_check ms some part frozen long most =
    rw (ne_eqb (trues ms) 0 some, ne_eqb (trues ms) (length ms) part, frozen, lt-ltb 1 (length ms) long, eq-eqb (trues ms + 1) (length ms) most)

leaf_known : (mark taken : Bool) → (known (pattern_of (mark ∷ [])) || taken) ≡ true
leaf_known true taken = refl
leaf_known false taken = refl

-- ---- what is clear

clear_full : (ms bs : List Bool) → trues ms ≡ length ms → Clear ms bs
clear_full [] bs full = tt
clear_full (m ∷ ms) [] full = tt
clear_full (true ∷ ms) (b ∷ bs) full = clear_full ms bs (omega arith)
clear_full (false ∷ ms) (b ∷ bs) full = absurd (omega (arith, trues_bound ms))

-- where the first leaf alone is frozen, a word is a label if and only if its first leaf has 0
clear_check : (ms bs : List Bool) → first_frozen ms ≡ true → slice_index_or bs 0 false ≡ false → Clear ms bs
clear_check [] bs check head = tt
clear_check (true ∷ ms) bs check head = absurd (false≢true check)
clear_check (false ∷ ms) [] check head = tt
clear_check (false ∷ ms) (b ∷ bs) check head =
    let most = eqb-true (trues ms + 1) (suc (length ms)) (and_parts (nat_lt 1 (suc (length ms))) _ check).1 in
    (head, clear_full ms bs (omega arith))

check_clear : (ms bs : List Bool) → first_frozen ms ≡ true → Clear ms bs → slice_index_or bs 0 false ≡ false
check_clear [] bs check clear = absurd (false≢true check)
check_clear (true ∷ ms) bs check clear = absurd (false≢true check)
check_clear (false ∷ ms) [] check clear = refl
check_clear (false ∷ ms) (b ∷ bs) check clear = clear.0

module _ {K : Type 0} (kind : Kind K) (score : Score K) (fair : AllFair kind score) (below : Reading K) (belows : ReaderRules kind below) where
  module _ (ms : List Bool) (turns : ℕ) (values : List K) (posed : Posed kind ms turns values) where
    size : leaves (tree_of ms) ≡ length ms
    size = leaves_balanced (length ms) posed.some

    few : turns ≤ 12
    few = posed_turns posed

    -- what a reader answers: a label, and the near one if there is one
    abbrev Right : List Bool → Type 0
    Right answer = Codeword (tree_of ms) ms answer × ((word : List Bool) → Codeword (tree_of ms) ms word → Near kind ms turns values word → answer ≡ word)

    -- a label that no other outscores
    most_right : (answer : List Bool) → Codeword (tree_of ms) ms answer
        → ((word : List Bool) → Codeword (tree_of ms) ms word → word_score score turns values word ≤ℤ word_score score turns values answer) → Right answer
    most_right answer code most = (code, λ word code' near. near_outscores kind score fair ms turns values word answer posed code' code near (most word code'))

    long : (word : List Bool) → Codeword (tree_of ms) ms word → length word ≡ length values
    long word code = code.0 ∙ size ∙ sym posed.same

    -- ---- few active leaves: what the exhaustive reader answers

    exhaustive_right : trues ms ≤ 1 → Right (exhaustive_answer score ms turns values)
    exhaustive_right one =
        let rules = exhaustive_rules kind score fair 1 (omega arith) in
        let taken = le-leb (trues ms) 1 one in
        (rules.answers_label ms turns values taken posed, λ word code near. rules.answers_near ms turns values word taken posed code near)

    abbrev number_score : ℕ → ℤ
    number_score n = word_score score turns values (data_word ms n)

    exhaustive_at : (k : ℕ) → trues ms ≡ k → data_word ms (best number_score (2 ^ k - 1)) ≡ exhaustive_answer score ms turns values
    exhaustive_at k is = ap (λ n. data_word ms (best number_score (2 ^ n - 1))) (sym is)

    frozen_right : trues ms ≡ 0 → Right (zero_label ms)
    frozen_right none = subst Right (sym (exhaustive_at 0 none) ∙ zero_word ms posed.some) (exhaustive_right (omega arith))

    chosen : (t : Bool) (m n : ℕ) → data_word ms (cond t m n) ≡ cond t (data_word ms m) (data_word ms n)
    chosen true m n = refl
    chosen false m n = refl

    single_right : trues ms ≡ 1 → Right (single_answer score ms turns values)
    single_right one =
        let zero = zero_word ms posed.some in
        let lone = lone_word ms one in
        let pick = chosen (int_lt (number_score 0) (number_score 1)) 1 0 in
        let is : data_word ms (best number_score 1) ≡ single_answer score ms turns values = cc in
        subst Right (sym (exhaustive_at 1 one) ∙ is) (exhaustive_right (omega arith))

    -- ---- many: what is decided

    full_right : trues ms ≡ length ms → Right (map kind.decided values)
    full_right full =
        most_right _ (length-map values kind.decided ∙ posed.same ∙ sym size, clear_full ms _ full)
        (λ word code. decided_most kind score fair turns few values word posed.fits (long word code))

    -- the sum of a word is the label of its first leaf
    first_leaf : (word : List Bool) → length word ≡ leaves (tree_of ms) → parity word ≡ slice_index_or (unlabel (tree_of ms) word) 0 false
    first_leaf word wide =
        let s = tree_of ms in
        ap parity (sym (label_unlabel s word wide)) ∙ parity_label s (left_heavy_balanced (length ms) posed.some) (unlabel s word) (length_unlabel s word wide)

    check_right : first_frozen ms ≡ true → Right (even_answer kind score turns values)
    check_right check =
        let some : 1 ≤ length values = omega (arith, posed.some, posed.same) in
        let answer = even_answer kind score turns values in
        let wide : length answer ≡ leaves (tree_of ms) = length_even kind score fair turns few values some ∙ posed.same ∙ sym size in
        most_right answer (wide, clear_check ms _ check (sym (first_leaf answer wide) ∙ answer_even kind score fair turns few values some))
        (λ word code. even_most kind score fair turns few values some word posed.fits (long word code) (first_leaf word code.0 ∙ check_clear ms _ check code.1))

    right : (known (pattern_of ms) || below.taking ms) ≡ true → Right (pattern_answer kind score below (pattern_of ms) ms turns values)
    right = pattern_cases ms (λ p. (known p || below.taking ms) ≡ true → Right (pattern_answer kind score below p ms turns values))
        (λ none _. frozen_right none)
        (λ full _. full_right full)
        (λ check _. check_right check)
        (λ single _. single_right single)
        (λ taken. (belows.answers_label ms turns values taken posed, λ word. belows.answers_near ms turns values word taken posed))

  pub shortcut_rules : ReaderRules kind (shortcut_reading kind score below)
  shortcut_rules = record {
    leaf_taken = λ mark. leaf_known mark (below.taking (mark ∷ []));
    answers_label = λ ms turns values taken posed. (right ms turns values posed taken).0;
    answers_near = λ ms turns values word taken posed code near. (right ms turns values posed taken).1 word code near;
    soft_grows = belows.soft_grows;
    bits_grow = λ m n h. omega (arith, belows.bits_grow m n h);
  }
