use Rattle.std.proofs.Common.{◌≡◌, ◌++◌, take, drop}
use Rattle.polar.specs.Words.{trues}
use Rattle.polar.specs.Bytes.{bytes}
use Rattle.polar.specs.Marks.{collect}
use Rattle.polar.proofs.code.write_active.Given as goal

abbrev pub invariant-loop-i : goal.invariant-loop-i
invariant-loop-i l =
    (l.next ≡ trues (take l.i l.marks))
    × (l.out ≡ bytes (collect (take l.i l.marks) (take l.i l.labels)) ++ drop l.next l.initial.out)
