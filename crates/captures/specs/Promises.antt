-- What the calls on captures promise over all words and captures. Assumes nothing.
use Rattle.std.specs.Prelude.{◌≡◌, ℕ, ◌+◌, ◌≤◌, Bool, true, List, take, ℤ, pos, IfOk, Ok, Result, OnOk, int_lt, slice_index_or, Float}
use Rattle.polar.specs.declared.refusal.Refusal.{Refusal}
use Rattle.captures.specs.declared.edit.Edit.{Edit}
use Rattle.captures.specs.declared.edit.Edit.TheVariants.{Erase, Count, Level, Weaken}
use Rattle.captures.specs.Captures.{Captured, shortfall}
use Rattle.captures.specs.Calls.{Answer, charge, Imported, saved_bytes, Loaded}

-- an edit raises the shortfall from any word by at most its charge
abbrev pub Charged : ℕ → Captured → Edit → Captured → Type 0
Charged top before edit after =
    (word : List Bool) → shortfall top after.count_row word ≤ shortfall top before.count_row word + charge top edit

-- a weakening takes no count to the other side of zero
abbrev pub SameSide : ℤ → ℤ → Type 0
SameSide v w = (int_lt w (pos 0) ≡ true → int_lt v (pos 0) ≡ true) × (int_lt (pos 0) w ≡ true → int_lt (pos 0) v ≡ true)

abbrev pub KeepsSign : Captured → Edit → Captured → Type 0
KeepsSign before Erase after = Unit {0}
KeepsSign before (Count v) after = Unit {0}
KeepsSign before (Level x) after = Unit {0}
KeepsSign before (Weaken n) after = (i : ℕ) → SameSide (slice_index_or before.count_row i (pos 0)) (slice_index_or after.count_row i (pos 0))

-- importing what was exported leaves the capture equal
abbrev pub Returns : ℕ → Captured → Result ℕ Refusal → List Float → Type 0
Returns top c answer row = IfOk answer (λ n. (again : Answer) (after : Captured) → Imported top c (take n row) again after → (again ≡ Ok tt) × (after ≡ c))

-- loading what was saved gives an equal capture, in whatever place
abbrev pub LoadsBack : ℕ → Captured → Result ℕ Refusal → List ℕ → Type 0
LoadsBack top c answer row = IfOk answer (λ n. (place : Captured) (again : Answer) (after : Captured) → Loaded top place (take n row) again after → (again ≡ Ok tt) × (after ≡ c))

-- what loads is saved as the same bytes
abbrev pub SavesBack : ℕ → List ℕ → Answer → Captured → Type 0
SavesBack top bytes answer after = OnOk answer (bytes ≡ saved_bytes top after)
