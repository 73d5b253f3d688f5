use Rattle.std.proofs.Common.{refl}
use lib.Ieee.{round}
use Rattle.std.specs.Fmt.{digits}
use Rattle.polar.specs.Shape.{grown, balanced}
use Rattle.storage.specs.Reading.{outcome, content_at, field_at, number_at, byte_at, marks_at, later_runs_at, counts_at}
use Rattle.storage.specs.Stored.{stored, fields, runs_from, groups}
use Rattle.examples.specs.Table.{table}
use Rattle.examples.proofs.Rows.{all_hold}
use Rattle.examples.proofs.row_count.Goals as goal

pub returns : goal.returns
unfolding round digits grown balanced outcome content_at field_at number_at byte_at marks_at later_runs_at counts_at stored fields runs_from groups
returns c = record { count = refl; hold = all_hold table refl }
