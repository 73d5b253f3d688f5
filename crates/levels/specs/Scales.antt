-- What is answered where a scale is made. Assumes nothing.
use Rattle.std.specs.Prelude.{◌≡◌, ℕ, None, Result, nat_lt}
use Rattle.polar.specs.declared.refusal.Refusal.{Refusal}
use Rattle.polar.specs.declared.refusal.Refusal.TheVariants.{Range}
use Rattle.polar.specs.Refusals.{Outcome, refused_if}
use Rattle.levels.specs.declared.scale.Scale.{Scale}
use Rattle.levels.specs.Level.{top_exponent, exponent_of}

-- the scale of the exponent k; one above the largest is refused
abbrev pub ScaleMade : ℕ → Result Scale Refusal → Type 0
ScaleMade k r = Outcome (refused_if (nat_lt top_exponent k) Range None) r (λ s. exponent_of s.step ≡ k) Unit
