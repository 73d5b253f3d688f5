-- A capture of the code by what it holds. Assumes nothing.
use Rattle.std.specs.Prelude.{vec_items}
use Rattle.polar.specs.Plans.{marks_of}
use Rattle.captures.specs.Captures.{Captured, capture_of}
use Rattle.captures.specs.declared.capture.Capture.{Capture}

abbrev pub captured : Capture → Captured
captured c = capture_of (marks_of c.plan) (vec_items c.counts) c.exponent
