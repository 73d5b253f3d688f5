use Rattle.std.proofs.Common.{◌≡◌, ◌+◌, ◌*◌, ◌≤◌, drop}
use Rattle.polar.specs.Bytes.{bits}
use Rattle.readers.specs.Readings.{total}
use Rattle.readers.proofs.lists.sum_shortfalls.Given as goal

abbrev pub invariant-loop-i : goal.invariant-loop-i
invariant-loop-i g l =
    (l.sum + total g.K.Soft.kind 0 (drop l.i l.values) (bits (drop l.i l.word)) ≡ total g.K.Soft.kind 0 l.values (bits l.word))
    × (l.sum ≤ 8192 * l.i)
