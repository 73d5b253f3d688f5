-- Reading a list of values of one kind, and how far it falls short of a word. Assumes nothing.
use Rattle.std.specs.Prelude.{◌≡◌, ℕ, suc, ◌+◌, ◌*◌, ◌<◌, Bool, cond, ◌&&◌, List, [], ◌∷◌, ◌++◌, length, drop, Some, None, Option, Result, ◌==◌, nat_le, nat_lt}
use Rattle.std.specs.Option.{option_map}
use Rattle.soft.specs.Kind.{Kind}
use Rattle.polar.specs.declared.refusal.Refusal.{Refusal}
use Rattle.polar.specs.declared.refusal.Refusal.TheVariants.{Data, WorkingRoom, Output, NotTaken, ItemCount}
use Rattle.polar.specs.Refusals.{Outcome, refused_if, refused_unless}
use Rattle.polar.specs.Words.{trues}
use Rattle.polar.specs.Bytes.{all_bits, bits, bytes}
use Rattle.polar.specs.Marks.{weight}
use Rattle.polar.specs.Codewords.{tree_of, codeword, data_of}
use Rattle.readers.specs.Readings.{Reading, most_places, total}

-- the place of the first value that does not fit at 0 turns
abbrev pub first_unfit : {K : Type 0} → Kind K → List K → Option ℕ
first_unfit kind [] = None
first_unfit kind (v ∷ values) = cond (kind.fitting v 0) (option_map suc (first_unfit kind values)) (Some 0)

-- the refusal of the first value that does not fit, by its place
abbrev pub unfit_due : (ℕ → Refusal) → Option ℕ → Option Refusal → Option Refusal
unfit_due unfit None later = later
unfit_due unfit (Some place) later = Some (unfit place)

-- a list for a block of these marks: as many values as symbols, each of which fits
abbrev pub list_due : {K : Type 0} → Kind K → (ℕ → Refusal) → List Bool → List K → Option Refusal → Option Refusal
list_due kind unfit ms values later =
    refused_unless (length values == length ms) ItemCount
    (unfit_due unfit (first_unfit kind values) later)

-- A pile of readers for a block of these marks, with this many soft and bit places lent: it takes the marks, it tells no more
-- places than can be had, and beside those there is one of each sort for each symbol.
abbrev pub pile_due : {K : Type 0} → Reading K → List Bool → ℕ → ℕ → Option Refusal → Option Refusal
pile_due reading ms soft_places bit_places later =
    refused_unless (reading.taking ms) NotTaken
    (refused_unless (nat_le (reading.soft_need (length ms)) most_places && nat_le (reading.bit_need (length ms)) most_places && nat_le (reading.soft_need (length ms) + length ms) soft_places && nat_le (reading.bit_need (length ms) + length ms) bit_places) WorkingRoom later)

abbrev pub output_due : List Bool → ℕ → Option Refusal
output_due ms room = refused_if (nat_lt room (trues ms)) Output None

-- an accepted reading writes the data of the pile's answer into the front of the output, whose tail stays
abbrev pub DataWritten : {K : Type 0} → Reading K → List Bool → List K → List ℕ → List ℕ → ℕ → Type 0
DataWritten reading ms values before after k =
    (k ≡ trues ms) × (after ≡ bytes (data_of ms (reading.answer ms 0 values)) ++ drop k before)

-- what a call leaves in the two working buffers and the output
pub record Buffers (K : Type 0) : Type 0 where
  pub soft_row : List K
  pub bit_row : List Bool
  pub output : List ℕ

abbrev pub rows : {K : Type 0} → List K → List Bool → List ℕ → Buffers K
rows soft bits out = record { soft_row = soft; bit_row = bits; output = out }

-- Reading a list. A refused reading changes no buffer, the working ones included.
abbrev pub ListRead : {K : Type 0} → Kind K → (ℕ → Refusal) → Reading K → List Bool → List K → Buffers K → Result ℕ Refusal → Buffers K → Type 0
ListRead kind unfit reading ms values before answer after =
    Outcome (list_due kind unfit ms values (pile_due reading ms (length before.soft_row) (length before.bit_row) (output_due ms (length before.output)))) answer
    (DataWritten reading ms values before.output after.output)
    (after ≡ before)

-- only the working buffers are free after an accepted reading, and they keep their lengths
abbrev pub WorkingRowsFree : {K : Type 0} → Buffers K → Buffers K → Type 0
WorkingRowsFree before after = (length after.soft_row ≡ length before.soft_row) × (length after.bit_row ≡ length before.bit_row)

-- For every data word: a block whose shortfall from it is under unit × weight reads as that word.
abbrev pub NearReadsTrue : {K : Type 0} → Kind K → List Bool → List K → List ℕ → Type 0
NearReadsTrue kind ms values read =
    (ds : List Bool) → length ds ≡ trues ms → total kind 0 values (codeword ms ds) < kind.unit * weight (tree_of ms) ms → read ≡ bytes ds

-- the shortfall of a listed block from a word of any bits: refused as a list is, then as a word is
abbrev pub shortfall_due : {K : Type 0} → Kind K → (ℕ → Refusal) → List Bool → List K → List ℕ → Option Refusal
shortfall_due kind unfit ms values word =
    list_due kind unfit ms values
    (refused_unless (length word == length ms) ItemCount
    (refused_unless (all_bits word) Data None))

abbrev pub ShortfallTold : {K : Type 0} → Kind K → (ℕ → Refusal) → List Bool → List K → List ℕ → Result ℕ Refusal → Type 0
ShortfallTold kind unfit ms values word answer =
    Outcome (shortfall_due kind unfit ms values word) answer (λ s. s ≡ total kind 0 values (bits word)) (Unit {0})
