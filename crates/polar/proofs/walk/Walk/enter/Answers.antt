use Rattle.std.proofs.Common.{◌+◌, ◌<◌, length, arith}
use Rattle.polar.specs.Preorder.{Fitting, fresh}
use Rattle.polar.proofs.Walked.{set_keeps}
use Rattle.polar.proofs.walk.Walk.enter.Goals as goal

pub invariant_of-self-clause-fitting : goal.invariant_of-self-clause-fitting
invariant_of-self-clause-fitting c =
    let walk = c.args.self.now in
    let d = walk.depth + 1 in
    let within : d < length walk.frames = omega arith in
    rw c.new.ensures
    (set_keeps Fitting walk.frames d d (fresh c.args.len c.args.first) within (λ k h apart. walk.fitting k (omega arith)) c.requires.fitting)
