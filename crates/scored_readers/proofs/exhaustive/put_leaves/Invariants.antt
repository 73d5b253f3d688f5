use Rattle.std.proofs.Common.{◌≡◌, ◌/◌, ◌^◌, drop}
use Rattle.polar.specs.Words.{trues}
use Rattle.polar.specs.Marks.{spread}
use Rattle.scored_readers.specs.ExhaustiveReading.{digits}
use Rattle.scored_readers.proofs.exhaustive.put_leaves.Given as goal

-- the leaves from i on are written, and their digits are off the rest of the number
abbrev pub invariant-loop-i : goal.invariant-loop-i
invariant-loop-i l =
    (l.rest ≡ l.number / 2 ^ trues (drop l.i l.marks))
    × (drop l.i l.labels ≡ spread (drop l.i l.marks) (digits (trues (drop l.i l.marks)) l.number))
