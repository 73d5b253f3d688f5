use Rattle.std.proofs.Common.{arith}
use borrow.Author.Differences.{ints}
use Rattle.std.proofs.lemmas.Int.{clamps}
use Rattle.captures.proofs.capture.editing.weaken.Goals as goal

pub returns : goal.returns
returns c = grind (arith, ints, clamps)
