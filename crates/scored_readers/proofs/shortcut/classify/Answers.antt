use Rattle.std.proofs.Common.{arith}
use Rattle.polar.proofs.Sums.{trues_bound}
use Rattle.scored_readers.proofs.shortcut.classify.Goals as goal

pub overflow_add-active : goal.overflow_add-active
overflow_add-active c = omega (arith, trues_bound c.args.marks.now, c.count_ones-active.ensures)
