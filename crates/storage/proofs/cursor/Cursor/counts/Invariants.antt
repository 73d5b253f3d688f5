use Rattle.std.proofs.Common.{◌-◌, length, take}
use Rattle.storage.specs.Contents.{top_count}
use Rattle.storage.specs.Cursors.{read_by}
use Rattle.storage.specs.Reading.{counts_at}
use Rattle.storage.proofs.Steps.{Pending}
use Rattle.storage.proofs.cursor.Cursor.counts.Given as goal

abbrev pub invariant-loop-count : goal.invariant-loop-count
invariant-loop-count l = Pending (take l.count-index l.counts) (read_by (counts_at top_count (length l.initial.counts - l.count-index)) l.self) (read_by (counts_at top_count (length l.initial.counts)) l.initial.self)
