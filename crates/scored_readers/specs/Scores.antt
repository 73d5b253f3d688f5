-- Scores of words: a near label outscores every other. Assumes nothing.
use Rattle.std.specs.Prelude.{◌≡◌, ℕ, ◌+◌, ◌*◌, ◌^◌, ◌<◌, ◌≤◌, Bool, true, false, List, [], ◌∷◌, length, drop, pos, ◌+ℤ◌, ◌-ℤ◌, ◌≤ℤ◌, slice_index_or}
use Rattle.std.proofs.Common.{sym, ap, ◌∙◌, ⊎_elim, arith, mul-zero, mul-suc, mul-le-mul, mul-le-mul_left, mul-le-mul_right, mul_left_comm}
use Rattle.std.proofs.lemmas.Int.{ints}
use Rattle.std.proofs.lemmas.List.{drop_more}
use Rattle.std.proofs.lemmas.Bool.{cases_lt}
use Rattle.soft.specs.Kind.{Kind, Score, AllFair, limit}
use Rattle.polar.specs.Words.{plus, trues}
use Rattle.polar.specs.Marks.{Codeword, weight}
use Rattle.polar.specs.Codewords.{tree_of}
use Rattle.polar.proofs.Shapes.{leaves_balanced, left_heavy_balanced}
use Rattle.polar.proofs.Sums.{plus_same, trues_zeros, same_from_plus}
use Rattle.polar.proofs.Distance.{distance}
use Rattle.readers.specs.Readings.{Posed, Near, AllFit, total}
use Rattle.readers.specs.Node.{posed_turns}
use Rattle.scored_readers.specs.ExhaustiveReading.{word_score}

-- ---- the steps of a sum of scores

pub score_more : {K : Type 0} (score : Score K) (turns : ℕ) (values : List K) (word : List Bool) (i : ℕ) (v : K) → i < length values → i < length word → v ≡ slice_index_or values i v
    → word_score score turns (drop i values) (drop i word) ≡ score v (slice_index_or word i false) turns +ℤ word_score score turns (drop (i + 1) values) (drop (i + 1) word)
score_more score turns values word i v p q read =
    let front : drop i values ≡ v ∷ drop (i + 1) values = drop_more values i v p ∙ ap (λ x. x ∷ drop (i + 1) values) (sym read) in
    rw (front, drop_more word i false q)

-- no sum passes what 32 bits hold
pub score_room : (unit len turns i : ℕ) → unit ≤ 2047 → len * 2 ^ turns ≤ 4096 → i ≤ len → i * (unit * 2 ^ turns) ≤ 8384512
score_room unit len turns i small short h =
    let moved : len * (unit * 2 ^ turns) ≡ unit * (len * 2 ^ turns) = mul_left_comm len unit (2 ^ turns) in
    omega (arith, mul-le-mul_right (unit * 2 ^ turns) h, mul-le-mul small short)

module _ {K : Type 0} (kind : Kind K) (score : Score K) (fair : AllFair kind score) where
  -- a word outscores another by what it leaves of the limit in the places where they differ
  score_gap : (turns : ℕ) → turns ≤ 12 → (values : List K) (a b : List Bool) → AllFit kind turns values → length a ≡ length values → length b ≡ length values
      → pos (2 * (limit kind turns * trues (plus a b))) ≤ℤ ((word_score score turns values a -ℤ word_score score turns values b) +ℤ pos (2 * total kind turns values a))
  score_gap turns few [] [] b fits p q = omega (arith, ints, mul-zero (limit kind turns))
  score_gap turns few [] (x ∷ a) b fits p q = absurd (omega arith)
  score_gap turns few (v ∷ values) [] b fits p q = absurd (omega arith)
  score_gap turns few (v ∷ values) (x ∷ a) [] fits p q = absurd (omega arith)
  score_gap turns few (v ∷ values) (true ∷ a) (true ∷ b) fits p q =
      omega (arith, ints, score_gap turns few values a b fits.1 (omega arith) (omega arith))
  score_gap turns few (v ∷ values) (true ∷ a) (false ∷ b) fits p q =
      omega (arith, ints, score_gap turns few values a b fits.1 (omega arith) (omega arith), mul-suc (limit kind turns) (trues (plus a b)), (fair v true turns few fits.0).apart)
  score_gap turns few (v ∷ values) (false ∷ a) (true ∷ b) fits p q =
      omega (arith, ints, score_gap turns few values a b fits.1 (omega arith) (omega arith), mul-suc (limit kind turns) (trues (plus a b)), (fair v false turns few fits.0).apart)
  score_gap turns few (v ∷ values) (false ∷ a) (false ∷ b) fits p q =
      omega (arith, ints, score_gap turns few values a b fits.1 (omega arith) (omega arith))

  -- so a label that scores no less than a near one is that one
  pub near_outscores : (ms : List Bool) (turns : ℕ) (values : List K) (word other : List Bool) → Posed kind ms turns values → Codeword (tree_of ms) ms word → Codeword (tree_of ms) ms other
      → Near kind ms turns values word → word_score score turns values word ≤ℤ word_score score turns values other → other ≡ word
  near_outscores ms turns values word other posed code code' near most =
      let s = tree_of ms in
      let d = trues (plus word other) in
      let size = leaves_balanced (length ms) posed.some in
      let few = posed_turns posed in
      let long : length word ≡ length values = code.0 ∙ size ∙ sym posed.same in
      let long' : length other ≡ length values = code'.0 ∙ size ∙ sym posed.same in
      ⊎_elim
      (λ (none : d < 1). sym (same_from_plus word other (long ∙ sym long') (omega arith)))
      (λ (some : 1 ≤ d).
      let differ : word ≡ other → ⊥ = λ e. omega (arith, ap (λ z. trues (plus word z)) (sym e) ∙ ap trues (plus_same word) ∙ trues_zeros (length word)) in
      let apart : weight s ms ≤ d = distance s ms word other (left_heavy_balanced (length ms) posed.some) (sym size) code code' differ in
      let gap = score_gap turns few values word other posed.fits long long' in
      absurd (omega (arith, ints, mul-le-mul_left (limit kind turns) apart)))
      (cases_lt d 1)
