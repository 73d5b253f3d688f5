-- The first place at which a function is largest, and a loop that finds it. Assumes nothing.
use Rattle.std.specs.Prelude.{◌≡◌, ℕ, zero, suc, ◌+◌, ◌<◌, ◌≤◌, true, false, cond, ℤ, ◌≤ℤ◌, int_lt}
use Rattle.std.proofs.Common.{sym, ap, ◌∙◌, ⊎_elim, arith, add-one}
use Rattle.std.proofs.lemmas.Int.{ints}
use Rattle.std.proofs.lemmas.Bool.{cond_both, cond-true, cond-false, cases_lt}
use Rattle.scored_readers.specs.ExhaustiveReading.{best}

pub best_least : (f : ℕ → ℤ) (n : ℕ) → best f n ≤ n
best_least f zero = omega arith
best_least f (suc n) = cond_both (int_lt (f (best f n)) (f (suc n))) (suc n) (best f n) (λ k. k ≤ suc n) (λ _. omega arith) (λ _. omega (arith, best_least f n))

pub best_most : (f : ℕ → ℤ) (n k : ℕ) → k ≤ n → f k ≤ℤ f (best f n)
best_most f zero k h = let none : k ≡ 0 = omega arith in rw none (omega (arith, ints))
best_most f (suc n) k h =
    let before : k ≤ n → f k ≤ℤ f (best f n) = best_most f n k in
    cond_both (int_lt (f (best f n)) (f (suc n))) (suc n) (best f n) (λ b. f k ≤ℤ f b)
    (λ more. ⊎_elim (λ (last : n < k). let is : k ≡ suc n = omega arith in rw is (omega (arith, ints))) (λ (early : k ≤ n). omega (arith, ints, before early)) (cases_lt n k))
    (λ less. ⊎_elim (λ (last : n < k). let is : k ≡ suc n = omega arith in rw is (omega (arith, ints))) before (cases_lt n k))

-- A loop that keeps what stands at the best place so far, with its score `top`. The next is w, with score s.
module _ {W : Type 0} (item : ℕ → W) (score : W → ℤ) (n : ℕ) (w : W) (s top : ℤ) (next : w ≡ item (n + 1))
    (scored : s ≡ score w) (kept : top ≡ score (item (best (λ k. score (item k)) n))) where
  abbrev pub BestNext : W → ℤ → Type 0
  BestNext w' top' = (w' ≡ item (best (λ k. score (item k)) (n + 1))) × (top' ≡ score (item (best (λ k. score (item k)) (n + 1))))

  best_suc : best (λ k. score (item k)) (n + 1) ≡ cond (int_lt top s) (n + 1) (best (λ k. score (item k)) n)
  best_suc = let value : s ≡ score (item (n + 1)) = scored ∙ ap score next in rw (kept, value, add-one n)

  pub better : int_lt top s ≡ true → (w' : W) (top' : ℤ) → w' ≡ w → top' ≡ s → BestNext w' top'
  better more w' top' is top_is =
      let moved : best (λ k. score (item k)) (n + 1) ≡ n + 1 = best_suc ∙ cond-true (int_lt top s) _ _ more in
      let there : item (best (λ k. score (item k)) (n + 1)) ≡ w = ap item moved ∙ sym next in
      (is ∙ sym there, top_is ∙ scored ∙ ap score (sym there))

  pub no_better : int_lt top s ≡ false → (w₀ w' : W) (top' : ℤ) → w₀ ≡ item (best (λ k. score (item k)) n) → w' ≡ w₀ → top' ≡ top → BestNext w' top'
  no_better less w₀ w' top' best_is is top_is =
      let stays : best (λ k. score (item k)) (n + 1) ≡ best (λ k. score (item k)) n = best_suc ∙ cond-false (int_lt top s) _ _ less in
      (is ∙ best_is ∙ ap item (sym stays), top_is ∙ kept ∙ ap (λ k. score (item k)) (sym stays))
