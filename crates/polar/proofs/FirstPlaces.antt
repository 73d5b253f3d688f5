-- The first place that a loop looks for, counted from where the loop stands. Assumes nothing.
use Rattle.std.proofs.Common.{◌≡◌, ℕ, suc, ◌+◌, Some, None, Option, refl, ap, arith}
use Rattle.std.specs.Option.{option_map}

pub from_zero : (o : Option ℕ) → option_map (λ k. 0 + k) o ≡ o
from_zero None = refl
from_zero (Some k) = ap Some (omega arith)

pub one_further : (i : ℕ) (o : Option ℕ) → option_map (λ k. i + k) (option_map suc o) ≡ option_map (λ k. (i + 1) + k) o
one_further i None = refl
one_further i (Some k) = ap Some (omega arith)
