use Rattle.std.proofs.Common.{length}
use Rattle.checks.proofs.matrix.+write_row.Given as goal

abbrev pub decreases-write_row : goal.decreases-write_row
decreases-write_row l = length l.row.now
