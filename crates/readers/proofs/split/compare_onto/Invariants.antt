use Rattle.std.proofs.Common.{◌≡◌, take}
use Rattle.polar.specs.Words.{merge}
use Rattle.readers.proofs.split.compare_onto.Given as goal

abbrev pub invariant-loop-i : goal.invariant-loop-i
invariant-loop-i g l = l.values ≡ merge g.K.Soft.kind.compared l.initial.values (take l.i l.partners)
