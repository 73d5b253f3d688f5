use Rattle.std.proofs.Common.{◌≡◌, take}
use Rattle.readers.specs.SplitReading.{joins}
use Rattle.readers.proofs.split.join_into.Given as goal

abbrev pub invariant-loop-i : goal.invariant-loop-i
invariant-loop-i g l = take l.i l.out ≡ take l.i (joins g.K.Soft.kind.joined l.left l.right l.left_bits)
