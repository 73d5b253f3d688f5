use Rattle.std.proofs.Common.{◌≡◌, ◌++◌, take}
use Rattle.std.specs.Prelude.{vec_items}
use Rattle.polar.specs.Bytes.{bits}
use Rattle.reports.specs.Text.{digits}
use Rattle.reports.proofs.text.Text.put_digits.Given as goal

abbrev pub invariant-loop-b : goal.invariant-loop-b
invariant-loop-b l = vec_items l.self ≡ vec_items l.initial.self ++ digits (bits (take l.b-index l.word))
