use Rattle.std.proofs.Common.{ℕ, ◌-◌, ◌≤◌, true, length, take}
use Rattle.storage.specs.Cursors.{read_by}
use Rattle.storage.specs.Reading.{later_runs_at}
use Rattle.storage.proofs.Steps.{Pending}
use Rattle.storage.proofs.cursor.Cursor.later_runs.Given as goal

abbrev pub invariant-loop-from : goal.invariant-loop-from
invariant-loop-from l =
    let n = length l.initial.marks in
    (l.from ≤ n)
    × ((most : ℕ) × (n - l.from ≤ most)
    × Pending (take l.from l.marks) (read_by (later_runs_at most l.mark (n - l.from)) l.self)
    (read_by (later_runs_at n true n) l.initial.self))

abbrev pub decreases-loop-from : goal.decreases-loop-from
decreases-loop-from l = length l.initial.marks - l.from
