-- The front of a row, as `&row[0..n]` gives it. Assumes nothing.
use Rattle.std.proofs.Common.{◌≡◌, ℕ, ◌-◌, ◌≤◌, List, ◌++◌, length, take, drop, ap, ◌∙◌}
use native.Mathlib.Nat.{sub-zero}
use Rattle.std.proofs.lemmas.List.{length-take-le}

pub front_length : {X : Type 0} (n : ℕ) (xs : List X) → n ≤ length xs → length (take (n - 0) xs) ≡ n
front_length n xs h = rw sub-zero (length-take-le n xs h)

-- the front of xs put over that of zs
pub front_put : {X : Type 0} (n : ℕ) (xs ys zs : List X) → ys ≡ take (n - 0) xs → ys ++ drop (n - 0) zs ≡ take n xs ++ drop n zs
front_put n xs ys zs e = ap (λ l. l ++ drop (n - 0) zs) e ∙ rw sub-zero
