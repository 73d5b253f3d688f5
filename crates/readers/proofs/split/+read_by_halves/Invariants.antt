use Rattle.std.proofs.Common.{length}
use Rattle.readers.proofs.split.+read_by_halves.Given as goal

abbrev pub decreases-read_by_halves : goal.decreases-read_by_halves
decreases-read_by_halves g l = length l.question.now.marks.now
