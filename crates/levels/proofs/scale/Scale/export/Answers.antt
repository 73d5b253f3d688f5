use Rattle.std.proofs.Common.{arith, rules}
use Rattle.std.proofs.iter.runs.Made.{chains}
use Rattle.levels.specs.Level.{largest_count}
use Rattle.levels.proofs.Rows.{rows_return}
use Rattle.levels.proofs.scale.Scale.export.Goals as goal

pub returns-then-out-counts-clause-returns : goal.returns-then-out-counts-clause-returns
returns-then-out-counts-clause-returns c = rows_return largest_count _ (omega arith) (omega (arith, c.args.self.now.small))

pub returns-clause-written : goal.returns-clause-written
returns-clause-written c = search (rules, chains)

pub returns-clause-returns : goal.returns-clause-returns
returns-clause-returns c = rows_return largest_count _ (omega arith) (omega (arith, c.args.self.now.small))
