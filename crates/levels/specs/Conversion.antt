-- What is answered where a level is converted. Assumes nothing.
use Rattle.std.specs.Prelude.{◌≡◌, ℕ, ℤ, pos, Some, None, Result, is_nan, unwrap_or, Float}
use Rattle.polar.specs.declared.refusal.Refusal.{Refusal}
use Rattle.polar.specs.declared.refusal.Refusal.TheVariants.{Range}
use Rattle.polar.specs.Refusals.{Outcome, refused_if}
use Rattle.levels.specs.Level.{count_of}

-- the count of the level x; what is not a number is refused
abbrev pub Converted : ℕ → ℕ → Float → Result ℤ Refusal → Type 0
Converted top k x r = Outcome (refused_if (is_nan x) Range None) r (λ c. count_of top k x ≡ Some c) Unit

-- the count of the level x, or 0 for what is not a number
abbrev pub nearest_or_zero : ℕ → ℕ → Float → ℤ
nearest_or_zero top k x = unwrap_or (count_of top k x) (pos 0)
