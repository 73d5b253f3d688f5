use Rattle.std.proofs.Common.{length}
use Rattle.polar.proofs.labels.+pass.Given as goal

abbrev pub decreases-pass : goal.decreases-pass
decreases-pass g l = length l.bits.now
