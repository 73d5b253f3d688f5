-- All that may lie between the making of a capture and a reading of it. Assumes nothing.
use Rattle.std.specs.Prelude.{◌≡◌, ℕ, ◌+◌, ◌⊎◌, List, [], ◌∷◌, take, Ok, Err, Result, Float}
use Rattle.polar.specs.declared.refusal.Refusal.{Refusal}
use Rattle.captures.specs.declared.edit.Edit.{Edit}
use Rattle.captures.specs.Captures.{Captured}
use Rattle.captures.specs.Calls.{Answer, charge, Edited, Exported, Imported, Saved, Loaded}

-- A call on the capture: what it was given, and what it answered. An export's answer is the levels that it wrote, a save's the bytes.
pub data Call : Type 0 where
  edit : ℕ → Edit → Answer → Call
  export : Result (List Float) Refusal → Call
  import : List Float → Answer → Call
  save : Result (List ℕ) Refusal → Call
  load : List ℕ → Answer → Call

-- the call stands in the list
abbrev pub Earlier : Call → List Call → Type 0
Earlier call [] = ⊥
Earlier call (c ∷ past) = (c ≡ call) ⊎ Earlier call past

-- what an accepted import or load was given, an accepted export or save wrote before
abbrev pub Given : {A : Type 0} → Answer → (A → Call) → A → List Call → Type 0
Given (Ok u) wrote x past = Earlier (wrote x) past
Given (Err e) wrote x past = Unit {0}

-- what a call that answers a number of items wrote into the front of a row
abbrev pub written : {A : Type 0} → Result ℕ Refusal → List A → Result (List A) Refusal
written (Ok n) row = Ok (take n row)
written (Err e) row = Err e

-- a call that writes into a row, whatever row it was lent
pub record Writes {A : Type 0} (does : List A → Result ℕ Refusal → List A → Type 0) (wrote : Result (List A) Refusal) : Type 0 where
  pub lent : List A
  pub answer : Result ℕ Refusal
  pub row : List A
  pub done : does lent answer row
  pub is : wrote ≡ written answer row

module _ (top : ℕ) where
  -- only an accepted edit is charged
  abbrev pub charged : Call → ℕ
  charged (edit place e (Ok u)) = charge top e
  charged (edit place e (Err why)) = 0
  charged (export r) = 0
  charged (import levels r) = 0
  charged (save r) = 0
  charged (load bytes r) = 0

  abbrev pub charges : List Call → ℕ
  charges [] = 0
  charges (call ∷ past) = charged call + charges past

  -- one call after those of the past, by the relation that is its contract
  abbrev pub Step : List Call → Captured → Call → Captured → Type 0
  Step past before (edit place e r) after = Edited top before place e r after
  Step past before (export r) after = Writes (Exported top before) r × (after ≡ before)
  Step past before (import levels r) after = Imported top before levels r after × Given r (λ x. export (Ok x)) levels past
  Step past before (save r) after = Writes (Saved top before) r × (after ≡ before)
  Step past before (load bytes r) after = Loaded top before bytes r after × Given r (λ x. save (Ok x)) bytes past

  -- the calls, newest first, take the capture from start to now
  pub data History (start : Captured) : List Call → Captured → Type 0 where
    none : History start [] start
    then : {past : List Call} {before : Captured} {call : Call} {after : Captured} → History start past before → Step past before call after → History start (call ∷ past) after
