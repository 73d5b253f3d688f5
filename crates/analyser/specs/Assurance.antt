-- What is assured of a capture, and that no more can be. Assumes nothing.
use Rattle.std.specs.Prelude.{◌≡◌, ℕ, ◌*◌, ◌<◌, ◌≤◌, Bool, List, map, length, Ok}
use Rattle.polar.specs.Words.{trues}
use Rattle.polar.specs.Marks.{weight}
use Rattle.polar.specs.Codewords.{tree_of}
use Rattle.captures.specs.declared.edit.Edit.TheVariants.{Erase}
use Rattle.captures.specs.Captures.{Captured, made_of}
use Rattle.captures.specs.Calls.{Made}
use Rattle.analyser.specs.Histories.{Call, edit, charges, History}

-- the marks of a plan: 1 to 4096, some of them active
pub record Planned (ms : List Bool) : Type 0 where
  pub some : 1 ≤ length ms
  pub short : length ms ≤ 4096
  pub active : 0 < trues ms

-- the least shortfall that can mislead a reading by counts, and the charges that a capture bears
abbrev pub bound : ℕ → List Bool → ℕ
bound top ms = top * weight (tree_of ms) ms

-- The data read of a capture are the sender's: whatever plan and data word it was made of, in whatever place, and whatever calls lie
-- between, as long as they are charged less than the bound in all.
abbrev pub LightHistoriesReadTrue : ℕ → Captured → List ℕ → Type 0
LightHistoriesReadTrue top now read =
    (place start : Captured) (ms : List Bool) (k : ℕ) (sent : List ℕ) (past : List Call)
    → Planned ms → Made top place ms k sent (Ok tt) start → History top start past now → charges top past < bound top ms → read ≡ sent

-- an accepted erasure
abbrev pub erasure : ℕ → Call
erasure place = edit place Erase (Ok tt)

-- Two different data words, and places whose erasures, charged the bound in all, leave their captures equal.
pub record Confused (top : ℕ) (ms : List Bool) (k : ℕ) (one other : List Bool) (places : List ℕ) : Type 0 where
  pub fits_one : length one ≡ trues ms
  pub fits_other : length other ≡ trues ms
  pub differ : one ≡ other → ⊥
  pub bound_charged : charges top (map erasure places) ≡ bound top ms
  pub left : Captured
  pub from_one : History top (made_of top ms one k) (map erasure places) left
  pub from_other : History top (made_of top ms other k) (map erasure places) left

-- the bound cannot be raised: with any exponent the two are confused
abbrev pub LimitIsTight : ℕ → List Bool → List Bool → List Bool → List ℕ → Type 0
LimitIsTight top ms one other places = (k : ℕ) → k ≤ 6 → Confused top ms k one other places

-- for some two data words and some places
abbrev pub BoundCannotBeRaised : ℕ → List Bool → Type 0
BoundCannotBeRaised top ms = (one : List Bool) × (other : List Bool) × (places : List ℕ) × LimitIsTight top ms one other places
