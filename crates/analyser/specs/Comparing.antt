-- Comparing the reading of a fresh list with the reading of a kept capture. Assumes nothing.
use Rattle.std.specs.Prelude.{◌≡◌, ℕ, Bool, true, List, length, None, Option, Result}
use Rattle.polar.specs.declared.refusal.Refusal.{Refusal}
use Rattle.polar.specs.Refusals.{Outcome}
use Rattle.polar.specs.Codewords.{data_of}
use Rattle.soft.specs.declared.count.Count.{Count}
use Rattle.soft.specs.Kind.{Kind}
use Rattle.soft.specs.Counts.{counted}
use Rattle.readers.specs.Readings.{Reading}
use Rattle.readers.specs.Blocks.{pile_due, list_due}
use Rattle.captures.specs.Captures.{Captured}
use Rattle.analyser.specs.Reading.{values_of}

-- the data that a pile reads of values
abbrev pub data_read : {K : Type 0} → Reading K → List Bool → List K → List Bool
data_read reading ms values = data_of ms (reading.answer ms 0 values)

-- the data that a pile reads of a capture by its counts
abbrev pub data_kept : Reading Count → Captured → List Bool
data_kept reading c = data_read reading c.marks_row (values_of counted c)

-- the three buffers that are lent to a comparison
pub record Lent (K : Type 0) : Type 0 where
  pub fresh_row : List K
  pub kept_row : List Count
  pub bit_row : List Bool

abbrev pub lent : {K : Type 0} → List K → List Count → List Bool → Lent K
lent fresh kept bits = record { fresh_row = fresh; kept_row = kept; bit_row = bits }

-- the pile for the capture comes first, then the list, then its pile
abbrev pub compare_due : {K : Type 0} → Kind K → (ℕ → Refusal) → Reading K → Reading Count → List Bool → List K → Lent K → Option Refusal
compare_due kind unfit fresh kept ms values rows =
    pile_due kept ms (length rows.kept_row) (length rows.bit_row)
    (list_due kind unfit ms values (pile_due fresh ms (length rows.fresh_row) (length rows.bit_row) None))

-- The answer tells whether the two data words are equal. A refused comparison changes no buffer.
abbrev pub Compared : {K : Type 0} → Kind K → (ℕ → Refusal) → Reading K → Reading Count → Captured → List K → Lent K → Result Bool Refusal → Lent K → Type 0
Compared kind unfit fresh kept c values before answer after =
    Outcome (compare_due kind unfit fresh kept c.marks_row values before) answer
    (λ same. (same ≡ true → data_read fresh c.marks_row values ≡ data_kept kept c) × (data_read fresh c.marks_row values ≡ data_kept kept c → same ≡ true))
    (after ≡ before)

-- only the lent buffers are free, and they keep their lengths
abbrev pub LentRowsFree : {K : Type 0} → Lent K → Lent K → Type 0
LentRowsFree before after =
    (length after.fresh_row ≡ length before.fresh_row) × (length after.kept_row ≡ length before.kept_row) × (length after.bit_row ≡ length before.bit_row)
