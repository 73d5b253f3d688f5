use Rattle.std.proofs.Common.{◌≡◌, ◌≤◌, ◌++◌, length}
use Rattle.std.specs.List.{flat_map}
use Rattle.std.specs.Slice.Iter.{chunk_by_rest}
use Rattle.storage.specs.Stored.{number, runs}
use Rattle.storage.proofs.RoundTrip.{runs_behind}
use Rattle.storage.proofs.form.Form.push_runs.Given as goal

abbrev pub invariant-loop-run : goal.invariant-loop-run
invariant-loop-run l =
    let rest = chunk_by_rest l.run-iterator in
    (length rest ≤ 4096) × (l.self ++ flat_map number (runs_behind rest) ≡ l.fn.self ++ flat_map number (runs l.marks))
