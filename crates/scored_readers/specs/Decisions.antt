-- Deciding each symbol scores most; among the words of even sum, so does turning the weakest. Assumes nothing.
use Rattle.std.specs.Prelude.{◌≡◌, ℕ, zero, suc, ◌-◌, ◌%◌, ◌<◌, ◌≤◌, Bool, true, false, not, T, List, [], ◌∷◌, map, length, ℤ, pos, ◌+ℤ◌, ◌≤ℤ◌, ◌==◌, slice_index, slice_index_or, slice_set, refl}
use Rattle.std.proofs.Common.{sym, ap, ◌∙◌, arith}
use Rattle.std.proofs.lemmas.Int.{ints}
use Rattle.std.proofs.lemmas.List.{length-map, length-set}
use Rattle.std.proofs.lemmas.Bool.{cond_both, false≢true}
use Rattle.std.proofs.lemmas.Bool.Decides.{nat_tests}
use Rattle.soft.specs.Kind.{Kind, Score, AllFair}
use Rattle.polar.specs.Words.{xor, trues, parity}
use Rattle.readers.specs.Readings.{AllFit}
use Rattle.scored_readers.specs.ExhaustiveReading.{word_score}
use Rattle.scored_readers.specs.ShortcutReading.{score_width, closeness, weakest, even_answer}
use Rattle.scored_readers.specs.Largest.{best_least, best_most}

-- ---- parity

-- the sum is odd where the number of ones is
pub parity_count : (word : List Bool) → parity word ≡ (trues word % 2 == 1)
parity_count [] = refl
parity_count (true ∷ word) = ap (xor true) (parity_count word) ∙ next (trues word)
  where
    next : (n : ℕ) → xor true (n % 2 == 1) ≡ (suc n % 2 == 1)
    next n = grind (arith, nat_tests)
parity_count (false ∷ word) = ap (xor false) (parity_count word) ∙ same (trues word % 2 == 1)
  where
    same : (b : Bool) → xor false b ≡ b
    same true = refl
    same false = refl

xor_not : (b c : Bool) → (xor (not b) c ≡ not (xor b c)) × (xor b (not c) ≡ not (xor b c))
xor_not true true = (refl, refl)
xor_not true false = (refl, refl)
xor_not false true = (refl, refl)
xor_not false false = (refl, refl)

parity_turned : (word : List Bool) (i : ℕ) → i < length word → parity (slice_set word i (not (slice_index_or word i false))) ≡ not (parity word)
parity_turned [] i h = absurd (omega arith)
parity_turned (b ∷ word) zero h = (xor_not b (parity word)).0
parity_turned (b ∷ word) (suc i) h = ap (xor b) (parity_turned word i (omega arith)) ∙ (xor_not b (parity word)).1

xor_other : (b p q : Bool) → xor b p ≡ not (xor b q) → p ≡ not q
xor_other b p q e = grind arith

-- words of other parity differ somewhere
differing : (a b : List Bool) → length a ≡ length b → parity a ≡ not (parity b) → (i : ℕ) × (i < length a) × (slice_index_or a i false ≡ not (slice_index_or b i false))
differing [] [] long odd = absurd (false≢true odd)
differing [] (y ∷ b) long odd = absurd (omega arith)
differing (x ∷ a) [] long odd = absurd (omega arith)
differing (true ∷ a) (false ∷ b) long odd = (0, omega arith, refl)
differing (false ∷ a) (true ∷ b) long odd = (0, omega arith, refl)
differing (true ∷ a) (true ∷ b) long odd = let d = differing a b (omega arith) (xor_other true (parity a) (parity b) odd) in (suc d.0, omega (arith, d.1), d.2)
differing (false ∷ a) (false ∷ b) long odd = let d = differing a b (omega arith) (xor_other false (parity a) (parity b) odd) in (suc d.0, omega (arith, d.1), d.2)

module _ {K : Type 0} (kind : Kind K) (score : Score K) (fair : AllFair kind score) (turns : ℕ) (few : turns ≤ 12) where
  -- the score of a word, the decided word, and the width of the value at a place
  abbrev score_of : List K → List Bool → ℤ
  score_of = word_score score turns

  abbrev guess : List K → List Bool
  guess = map kind.decided

  abbrev width_at : List K → ℕ → ℕ
  width_at values i = slice_index (map (score_width score turns) values) i

  -- the other bit scores less than the decided one by the width of the value
  other_score : (v : K) → T (kind.fitting v turns) → score v (not (kind.decided v)) turns +ℤ pos (score_width score turns v) ≡ score v (kind.decided v) turns
  other_score v fits = apart (kind.decided v) (fair v true turns few fits).favours
    where
      apart : (d : Bool) → score v (not d) turns ≤ℤ score v d turns → score v (not d) turns +ℤ pos (score_width score turns v) ≡ score v d turns
      apart true favours = omega (arith, ints)
      apart false favours = omega (arith, ints)

  bit_most : (v : K) (b : Bool) → T (kind.fitting v turns) → score v b turns ≤ℤ score v (kind.decided v) turns
  bit_most v b fits = either (kind.decided v) b (fair v true turns few fits).favours
    where
      either : (d b : Bool) → score v (not d) turns ≤ℤ score v d turns → score v b turns ≤ℤ score v d turns
      either true true favours = omega (arith, ints)
      either true false favours = favours
      either false true favours = favours
      either false false favours = omega (arith, ints)

  -- no word scores more than the decided one
  pub decided_most : (values : List K) (word : List Bool) → AllFit kind turns values → length word ≡ length values → score_of values word ≤ℤ score_of values (guess values)
  decided_most [] word fits long = omega (arith, ints)
  decided_most (v ∷ values) [] fits long = absurd (omega arith)
  decided_most (v ∷ values) (b ∷ word) fits long = omega (arith, ints, bit_most v b fits.0, decided_most values word fits.1 (omega arith))

  -- a word that is not as decided at a place loses the width there
  other_most : (values : List K) (word : List Bool) (i : ℕ) → AllFit kind turns values → length word ≡ length values → i < length values
      → slice_index_or word i false ≡ not (slice_index_or (guess values) i false) → (score_of values word +ℤ pos (width_at values i)) ≤ℤ score_of values (guess values)
  other_most [] word i fits long within other = absurd (omega arith)
  other_most (v ∷ values) [] i fits long within other = absurd (omega arith)
  other_most (v ∷ values) (b ∷ word) zero fits long within other =
      let less : score v b turns +ℤ pos (score_width score turns v) ≡ score v (kind.decided v) turns = rw other (other_score v fits.0) in
      omega (arith, ints, decided_most values word fits.1 (omega arith))
  other_most (v ∷ values) (b ∷ word) (suc i) fits long within other =
      omega (arith, ints, bit_most v b fits.0, other_most values word i fits.1 (omega arith) (omega arith) other)

  -- the decided word turned at one place loses just that
  turned_score : (values : List K) (i : ℕ) → AllFit kind turns values → i < length values
      → score_of values (slice_set (guess values) i (not (slice_index_or (guess values) i false))) +ℤ pos (width_at values i) ≡ score_of values (guess values)
  turned_score [] i fits within = absurd (omega arith)
  turned_score (v ∷ values) zero fits within = omega (arith, ints, other_score v fits.0)
  turned_score (v ∷ values) (suc i) fits within = omega (arith, ints, turned_score values i fits.1 (omega arith))

  module _ (values : List K) (some : 1 ≤ length values) where
    weakest_within : weakest score turns values < length values
    weakest_within = omega (arith, best_least (closeness score turns values) (length values - 1))

    pub length_even : length (even_answer kind score turns values) ≡ length values
    length_even =
        let long = length-map values kind.decided in
        cond_both (parity (guess values)) _ _ (λ w. length w ≡ length values) (λ _. length-set _ _ _ ∙ long) (λ _. long)

    pub answer_even : parity (even_answer kind score turns values) ≡ false
    answer_even =
        let within : weakest score turns values < length (guess values) = rw (length-map values kind.decided) weakest_within in
        cond_both (parity (guess values)) _ _ (λ w. parity w ≡ false) (λ odd. parity_turned (guess values) (weakest score turns values) within ∙ ap not odd) (λ even. even)

    -- no word of even sum scores more than the answer
    pub even_most : (word : List Bool) → AllFit kind turns values → length word ≡ length values → parity word ≡ false → score_of values word ≤ℤ score_of values (even_answer kind score turns values)
    even_most word fits long even =
        cond_both (parity (guess values)) _ _ (λ w. score_of values word ≤ℤ score_of values w)
        (λ odd.
        let there = differing word (guess values) (long ∙ sym (length-map values kind.decided)) (even ∙ sym (ap not odd)) in
        let lost = other_most values word there.0 fits long (omega (arith, there.1)) there.2 in
        let turned = turned_score values (weakest score turns values) fits weakest_within in
        let least = best_most (closeness score turns values) (length values - 1) there.0 (omega (arith, there.1)) in
        omega (arith, ints))
        (λ _. decided_most values word fits long)
