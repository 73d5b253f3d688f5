use Rattle.std.proofs.Common.{rules}
use Rattle.std.proofs.lemmas.List.{drop_all, append-nil}
use Rattle.std.proofs.iter.runs.Made.{chains}
use Rattle.analyser.proofs.values.put_values.Goals as goal

pub returns : goal.returns
returns g c = search (rules, chains, drop_all, append-nil)
