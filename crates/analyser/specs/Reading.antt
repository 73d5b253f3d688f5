-- Reading a capture through a pile of readers. Assumes nothing.
use Rattle.std.specs.Prelude.{◌≡◌, ℕ, ◌≤◌, true, cond, List, map, length, ℤ, pos, Result, int_lt, unsigned_abs}
use Rattle.polar.specs.declared.refusal.Refusal.{Refusal}
use Rattle.polar.specs.Refusals.{Outcome}
use Rattle.soft.specs.Kind.{Kind}
use Rattle.soft.specs.declared.erasure.Erasure.{Erasure}
use Rattle.soft.specs.declared.erasure.Erasure.TheVariants.{Zero, One, Unknown}
use Rattle.readers.specs.Readings.{Reading}
use Rattle.readers.specs.Blocks.{pile_due, output_due, DataWritten, Buffers}
use Rattle.captures.specs.Captures.{Captured}

-- a count as an erasure: above zero bit 0, below it bit 1, and a zero is unknown
abbrev pub erasure_of : ℤ → Erasure
erasure_of v = cond (int_lt (pos 0) v) Zero (cond (int_lt v (pos 0)) One Unknown)

-- counts up to the top are spoken as values that fit
abbrev pub AllSpeak : {K : Type 0} → ℕ → Kind K → (ℤ → K) → Type 0
AllSpeak top kind spoken = (v : ℤ) → unsigned_abs v ≤ top → kind.fitting (spoken v) 0 ≡ true

-- the values that the counts of a capture are spoken as
abbrev pub values_of : {K : Type 0} → (ℤ → K) → Captured → List K
values_of spoken c = map spoken c.count_row

-- Reading a capture as these values: the pile comes first, then the working room, then the output. An accepted reading writes the data of the
-- pile's answer into the front of the output, whose tail stays; a refused one changes no buffer, the working ones included.
abbrev pub CaptureRead : {K : Type 0} → Reading K → Captured → List K → Buffers K → Result ℕ Refusal → Buffers K → Type 0
CaptureRead reading c values before answer after =
    Outcome (pile_due reading c.marks_row (length before.soft_row) (length before.bit_row) (output_due c.marks_row (length before.output))) answer
    (DataWritten reading c.marks_row values before.output after.output)
    (after ≡ before)
