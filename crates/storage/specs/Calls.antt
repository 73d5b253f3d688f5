-- Loading and storing: which refusal is due, and what an accepted call leaves. Assumes nothing.
use Rattle.std.specs.Prelude.{◌≡◌, ℕ, Bool, ◌&&◌, List, ◌++◌, length, take, drop, ℤ, Some, None, Ok, Err, Option, Result, ◌==◌, nat_le, nat_lt}
use Rattle.polar.specs.declared.refusal.Refusal.{Refusal}
use Rattle.polar.specs.declared.refusal.Refusal.TheVariants.{Marks, Range, Output, ItemCount}
use Rattle.polar.specs.Refusals.{Outcome, refused_if, refused_unless, length_due}
use Rattle.polar.specs.Words.{trues}
use Rattle.storage.specs.declared.loading.Header.{Header}
use Rattle.storage.specs.Contents.{Content, content_of, all_small, Sound}
use Rattle.storage.specs.Stored.{stored}
use Rattle.storage.specs.Reading.{outcome}

-- the refusal that an answer is, if it is one
abbrev pub refusal_in : {A : Type 0} → Result A Refusal → Option Refusal
refusal_in (Ok x) = None
refusal_in (Err r) = Some r

-- loading these bytes: whatever the reading refuses
abbrev pub load_due : ℕ → List ℕ → Option Refusal
load_due top bytes = refusal_in (outcome top bytes)

-- An accepted load of `bytes` answers the content that they give. They are its stored form, and it is sound.
pub record Held (top : ℕ) (bytes : List ℕ) (content : Content) : Type 0 where
  pub given : outcome top bytes ≡ Ok content
  pub same : bytes ≡ stored top content
  pub sound : Sound top content

abbrev pub Loaded : ℕ → List ℕ → Result Content Refusal → Type 0
Loaded top bytes answer = Outcome (load_due top bytes) answer (Held top bytes) Unit

-- An accepted load of `bytes` into the rows ms and vs leaves ms' and vs': in front what the bytes give, and then what was there.
-- The bytes are its stored form, and it is sound.
pub record RowsHeld (top : ℕ) (bytes : List ℕ) (ms : List Bool) (vs : List ℤ) (ms' : List Bool) (vs' : List ℤ) (header : Header) : Type 0 where
  pub content : Content
  pub held : Held top bytes content
  pub length_is : header.length ≡ length content.marks
  pub exponent_is : header.exponent ≡ content.exponent
  pub marks_are : ms' ≡ content.marks ++ drop header.length ms
  pub counts_are : vs' ≡ content.counts ++ drop header.length vs

abbrev pub RowsLoaded : ℕ → List ℕ → List Bool → List ℤ → Result Header Refusal → List Bool → List ℤ → Type 0
RowsLoaded top bytes ms vs answer ms' vs' =
    Outcome (load_due top bytes) answer (RowsHeld top bytes ms vs ms' vs') ((ms' ≡ ms) × (vs' ≡ vs))

-- what reading `bytes` into the fronts of two rows answers and leaves
abbrev pub Fronts : ℕ → List ℕ → Result Header Refusal → List Bool → List ℤ → Type 0
Fronts top bytes (Ok h) ms vs = outcome top bytes ≡ Ok (content_of (take h.length ms) (take h.length vs) h.exponent)
Fronts top bytes (Err r) ms vs = outcome top bytes ≡ Err r

-- storing in a buffer of `room` bytes: the marks come first, then the counts and the exponent, then the buffer
abbrev pub store_due : ℕ → Content → ℕ → Option Refusal
store_due top c room =
    length_due (length c.marks)
    (refused_unless (nat_lt 0 (trues c.marks)) Marks
    (refused_unless (length c.counts == length c.marks) ItemCount
    (refused_unless (all_small top c.counts && nat_le c.exponent 6) Range
    (refused_if (nat_lt room (length (stored top c))) Output None))))

-- An accepted call answers the length of the stored form and writes it into the buffer's front; the tail stays.
-- What was stored is sound, and loads as it was.
pub record Put (top : ℕ) (c : Content) (before after : List ℕ) (n : ℕ) : Type 0 where
  pub length_is : n ≡ length (stored top c)
  pub written : after ≡ stored top c ++ drop n before
  pub sound : Sound top c
  pub loads : outcome top (stored top c) ≡ Ok c

abbrev pub Stores : ℕ → Content → List ℕ → Result ℕ Refusal → List ℕ → Type 0
Stores top c before answer after =
    Outcome (store_due top c (length before)) answer (Put top c before after) (after ≡ before)
