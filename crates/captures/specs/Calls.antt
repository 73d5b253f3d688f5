-- What each call on a capture does: one relation for each, between what the capture holds before and after. Assumes nothing.
use Rattle.std.specs.Prelude.{◌≡◌, ℕ, suc, ◌-◌, ◌*◌, Bool, true, not, ◌&&◌, List, ◌++◌, map, length, drop, ℤ, pos, negsuc, neg_ℤ, Some, None, Ok, Option, Result, ◌==◌, is_nan, nat_le, nat_lt, slice_index_or, slice_set, unsigned_abs, Float}
use Rattle.std.specs.Option.{unwrap_or}
use Rattle.polar.specs.declared.refusal.Refusal.{Refusal}
use Rattle.polar.specs.declared.refusal.Refusal.TheVariants.{Data, Place, Range, Output, ItemCount}
use Rattle.polar.specs.Refusals.{Outcome, refused_if, refused_unless}
use Rattle.polar.specs.Words.{trues}
use Rattle.polar.specs.Bytes.{all_bits, bits}
use Rattle.levels.specs.Level.{count_of, top_exponent}
use Rattle.levels.specs.Rows.{import_due, RowExported}
use Rattle.captures.specs.declared.edit.Edit.{Edit}
use Rattle.captures.specs.declared.edit.Edit.TheVariants.{Erase, Count, Level, Weaken}
use Rattle.storage.specs.Stored.{stored}
use Rattle.storage.specs.Reading.{outcome}
use Rattle.storage.specs.Calls.{load_due}
use Rattle.captures.specs.Captures.{Captured, content_in, with_counts, made_of, shortfall, first_against}

-- what a call answers that has nothing to give
abbrev pub Answer : Type 0
Answer = Result (Unit {0}) Refusal

-- a count moved by n towards 0, where it stops
abbrev pub weakened : ℤ → ℕ → ℤ
weakened (pos v) n = pos (v - n)
weakened (negsuc v) n = neg_ℤ (pos (suc v - n))

module _ (top : ℕ) where
  -- making: the exponent comes first, then the data
  abbrev pub make_due : List Bool → ℕ → List ℕ → Option Refusal
  make_due ms k ds = refused_if (nat_lt top_exponent k) Range (refused_unless (length ds == trues ms && all_bits ds) Data None)

  abbrev pub Made : Captured → List Bool → ℕ → List ℕ → Answer → Captured → Type 0
  Made before ms k ds answer after = Outcome (make_due ms k ds) answer (λ _. after ≡ made_of top ms (bits ds) k) (after ≡ before)

  -- what an accepted edit is charged; refused edits and other calls are charged nothing
  abbrev pub charge : Edit → ℕ
  charge Erase = top
  charge (Count v) = 2 * top
  charge (Level x) = 2 * top
  charge (Weaken n) = n

  -- the edits that are in range
  abbrev pub allowed : Edit → Bool
  allowed Erase = true
  allowed (Count v) = nat_le (unsigned_abs v) top
  allowed (Level x) = not (is_nan x)
  allowed (Weaken n) = nat_le 1 n && nat_le n top

  -- the count that an edit leaves where an old one stood
  abbrev pub count_after : ℕ → Edit → ℤ → ℤ
  count_after k Erase old = pos 0
  count_after k (Count v) old = v
  count_after k (Level x) old = unwrap_or (count_of top k x) old
  count_after k (Weaken n) old = weakened old n

  abbrev pub edited_at : Captured → ℕ → Edit → Captured
  edited_at c place edit = with_counts c (slice_set c.count_row place (count_after c.scale_exponent edit (slice_index_or c.count_row place (pos 0))))

  -- editing: the place comes first, then the range
  abbrev pub edit_due : Captured → ℕ → Edit → Option Refusal
  edit_due c place edit = refused_unless (nat_lt place (length c.count_row)) Place (refused_unless (allowed edit) Range None)

  abbrev pub Edited : Captured → ℕ → Edit → Answer → Captured → Type 0
  Edited before place edit answer after = Outcome (edit_due before place edit) answer (λ _. after ≡ edited_at before place edit) (after ≡ before)

  -- exporting writes the levels of all counts into the front of a row, whose tail stays
  abbrev pub Exported : Captured → List Float → Result ℕ Refusal → List Float → Type 0
  Exported c before answer after = RowExported c.scale_exponent c.count_row before after answer

  -- importing replaces all counts, or none: the number of levels comes first, then the levels
  abbrev pub Imported : Captured → List Float → Answer → Captured → Type 0
  Imported before levels answer after =
      Outcome (import_due levels before.count_row) answer
      (λ _. (after ≡ with_counts before after.count_row) × (map Some after.count_row ≡ map (count_of top before.scale_exponent) levels))
      (after ≡ before)

  -- a question about a word of N bits: their number comes first, then the bits
  abbrev pub word_due : List Bool → List ℕ → Option Refusal
  word_due ms word = refused_unless (length word == length ms) ItemCount (refused_unless (all_bits word) Data None)

  abbrev pub ShortfallTold : Captured → List ℕ → Result ℕ Refusal → Type 0
  ShortfallTold c word answer = Outcome (word_due c.marks_row word) answer (λ s. s ≡ shortfall top c.count_row (bits word)) (Unit {0})

  abbrev pub AgainstTold : Captured → List ℕ → Result (Option ℕ) Refusal → Type 0
  AgainstTold c word answer = Outcome (word_due c.marks_row word) answer (λ place. place ≡ first_against c.count_row (bits word)) (Unit {0})

  -- the bytes that a capture is stored as
  abbrev pub saved_bytes : Captured → List ℕ
  saved_bytes c = stored top (content_in c)

  -- saving writes them into the front of a row, whose tail stays
  abbrev pub Saved : Captured → List ℕ → Result ℕ Refusal → List ℕ → Type 0
  Saved c before answer after =
      Outcome (refused_if (nat_lt (length before) (length (saved_bytes c))) Output None) answer
      (λ n. (n ≡ length (saved_bytes c)) × (after ≡ saved_bytes c ++ drop n before))
      (after ≡ before)

  -- loading replaces the whole capture by what the bytes store, or nothing; what the place held does not matter
  abbrev pub Loaded : Captured → List ℕ → Answer → Captured → Type 0
  Loaded before bytes answer after = Outcome (load_due top bytes) answer (λ _. outcome top bytes ≡ Ok (content_in after)) (after ≡ before)
