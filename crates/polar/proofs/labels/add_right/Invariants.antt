use Rattle.std.proofs.Common.{◌≡◌, take, drop}
use Rattle.polar.specs.Words.{plus}
use Rattle.polar.proofs.labels.add_right.Given as goal

abbrev pub invariant-loop-i : goal.invariant-loop-i
invariant-loop-i l = l.bits ≡ plus l.initial.bits (take l.i (drop l.mid l.initial.bits))
