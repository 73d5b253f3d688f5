use Rattle.std.proofs.Common.{arith, rules}
use Rattle.levels.specs.Level.{largest_count}
use Rattle.levels.proofs.Levels.{made, top_exact, top_is}
use Rattle.levels.proofs.scale.Scale.new.Goals as goal

pub invariant_of-result : goal.invariant_of-result
invariant_of-result c =
    let m = made c.args.exponent (omega arith) in
    rw c.from-step.ensures (record {
      small = omega (arith, m.exponent);
      step_exact = m.step;
      top_exact = top_exact largest_count _ _ _ (omega arith) (omega arith) (omega (arith, m.exponent)) top_is m.step;
    })

pub returns : goal.returns
returns c = let m = made c.args.exponent (omega arith) in (search rules, rw c.from-step.ensures m.exponent)
