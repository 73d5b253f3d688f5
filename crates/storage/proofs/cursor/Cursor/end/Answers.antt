use Rattle.std.proofs.Common.{sym, arith}
use Rattle.storage.proofs.Steps.{ended_within}
use Rattle.storage.proofs.cursor.Cursor.end.Goals as goal

pub returns-then-self : goal.returns-then-self
returns-then-self c = sym (ended_within tt c.args.self.now.bytes.now c.args.self.now.at (omega arith))
