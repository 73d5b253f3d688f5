use Rattle.std.proofs.Common.{arith}
use Rattle.levels.specs.Level.{largest_count}
use Rattle.levels.proofs.Levels.{limit_exact}
use Rattle.levels.proofs.scale.Scale.limit.Goals as goal

pub returns : goal.returns
returns c = let s = c.args.self.now in limit_exact largest_count _ _ s.top (omega arith) c.factor.ensures s.top_exact
