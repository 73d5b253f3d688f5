use Rattle.std.proofs.Common.{◌≡◌, ◌+◌, ◌*◌, ◌≤◌, drop}
use Rattle.polar.specs.Bytes.{bits}
use Rattle.captures.specs.Tops.{top_count}
use Rattle.captures.specs.Captures.{shortfall}
use Rattle.captures.proofs.capture.Capture.shortfall.Given as goal

abbrev pub invariant-loop-i : goal.invariant-loop-i
invariant-loop-i l =
    (l.sum + shortfall top_count (drop l.i l.counts) (bits (drop l.i l.word)) ≡ shortfall top_count l.counts (bits l.word))
    × (l.sum ≤ 8192 * l.i)
