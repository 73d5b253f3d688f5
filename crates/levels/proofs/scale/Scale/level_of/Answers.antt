use Rattle.std.proofs.Common.{◌^◌, ◌<◌, ◌≤◌, ℤ, nat_abs, sym, ap, ◌∙◌, subst, arith, w16}
use lib.Ieee.{Float, binary32, mul, of_int}
use lib.Signed.{nat_abs-le}
use Rattle.std.proofs.lemmas.Int.{to_z-of_z}
use Rattle.levels.specs.Rounding.{nearest}
use Rattle.levels.specs.Level.{largest_count, exponent_of, IsLevel}
use Rattle.levels.proofs.Levels.{level_exact, level_value, zero_level}
use Rattle.levels.proofs.Rounding.{nearest_rounds, back}
use Rattle.levels.proofs.scale.Scale.level_of.Goals as goal

pub returns : goal.returns
returns c =
    let s = c.args.self.now in
    let n = c.args.count in
    let fine : exponent_of s.step ≤ 149 = omega (arith, s.small) in
    let few : nat_abs n < 2 ^ 24 = omega (arith, nat_abs-le n c.ranges.count.sfits) in
    let product = ap (λ (x : Float). mul binary32 x s.step) (c.from.ensures ∙ ap (of_int binary32) (to_z-of_z w16 n c.ranges.count)) in
    let exact = subst (λ (x : Float). IsLevel (exponent_of s.step) n x) (sym product) (level_exact _ n s.step fine few s.step_exact) in
    record {
      exact = exact;
      value = product ∙ level_value _ n s.step fine few s.step_exact;
      zero = λ h. product ∙ ap (λ (z : ℤ). mul binary32 (of_int binary32 z) s.step) h ∙ zero_level _ s.step fine s.step_exact;
      returns = λ h. back nearest nearest_rounds largest_count _ n _ exact h;
    }
