use Rattle.std.proofs.Common.{◌≡◌, ◌++◌, take, drop}
use Rattle.polar.specs.Bytes.{bits}
use Rattle.polar.specs.Marks.{spread}
use Rattle.polar.proofs.code.put_leaf_labels.Given as goal

abbrev pub invariant-loop-i : goal.invariant-loop-i
invariant-loop-i l = take l.i l.labels ++ spread (drop l.i l.marks) (bits l.rest.rest.now) ≡ spread l.marks (bits l.«data»)
