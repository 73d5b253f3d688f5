-- The refusals by number and place, and the one shape of every call that can be refused. Assumes nothing.
use Rattle.std.specs.Prelude.{◌≡◌, ℕ, Bool, cond, ◌||◌, List, [], ◌++◌, Some, None, Ok, Err, codes, decimal, Option, Result, ◌==◌, nat_lt}
use Rattle.polar.specs.declared.refusal.Refusal.{Refusal}
use Rattle.polar.specs.declared.refusal.Refusal.TheVariants.{Length, Marks, Data, Place, Range, WorkingRoom, Output, InputEnds, NumberForm, FieldRule, BytesRemain, NotTaken, ItemCount}

abbrev pub number_of : Refusal → ℕ
number_of Length = 1
number_of Marks = 2
number_of Data = 3
number_of Place = 4
number_of Range = 5
number_of WorkingRoom = 6
number_of Output = 7
number_of (InputEnds place) = 8
number_of (NumberForm place) = 9
number_of (FieldRule place) = 10
number_of (BytesRemain place) = 11
number_of NotTaken = 12
number_of ItemCount = 13

-- the byte of stored input that a refusal speaks of
abbrev pub place_of : Refusal → Option ℕ
place_of Length = None
place_of Marks = None
place_of Data = None
place_of Place = None
place_of Range = None
place_of WorkingRoom = None
place_of Output = None
place_of (InputEnds place) = Some place
place_of (NumberForm place) = Some place
place_of (FieldRule place) = Some place
place_of (BytesRemain place) = Some place
place_of NotTaken = None
place_of ItemCount = None

-- the place follows where there is one
abbrev pub at_place : Option ℕ → List ℕ
at_place (Some place) = codes " at " ++ decimal place
at_place None = []

-- how a refusal is printed
abbrev pub refusal_text : Refusal → List ℕ
refusal_text e = codes "refused " ++ decimal (number_of e) ++ at_place (place_of e)

-- A call's answer, where `due` is the refusal that its input calls for, if any. It is accepted exactly when none is due,
-- and `accepted` then holds of what it answers; else it is refused with the one that is due, and `kept` holds.
abbrev pub Outcome : {X : Type 0} → Option Refusal → Result X Refusal → (X → Type 0) → Type 0 → Type 0
Outcome due (Ok x) accepted kept = (due ≡ None) × accepted x
Outcome due (Err e) accepted kept = (due ≡ Some e) × kept

-- the refusals that are looked for, in their order: each with its test, `none` at the end
abbrev pub refused_if : Bool → Refusal → Option Refusal → Option Refusal
refused_if test e later = cond test (Some e) later

abbrev pub refused_unless : Bool → Refusal → Option Refusal → Option Refusal
refused_unless test e later = cond test later (Some e)

-- a block's length: 1 to 4096
abbrev pub length_due : ℕ → Option Refusal → Option Refusal
length_due n = refused_if (n == 0 || nat_lt 4096 n) Length
