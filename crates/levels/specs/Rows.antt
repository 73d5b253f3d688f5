-- Rows of counts and of levels. Assumes nothing.
use Rattle.std.specs.Prelude.{◌≡◌, ℕ, ◌≤◌, Bool, true, not, ◌&&◌, List, [], ◌∷◌, ◌++◌, map, length, drop, ℤ, Some, None, Ok, Option, Result, ◌==◌, is_nan, nat_lt, unsigned_abs, Float}
use Rattle.std.specs.List.{AllByRecursion}
use Rattle.polar.specs.declared.refusal.Refusal.{Refusal}
use Rattle.polar.specs.declared.refusal.Refusal.TheVariants.{Range, Output, ItemCount}
use Rattle.polar.specs.Refusals.{Outcome, refused_if, refused_unless}
use Rattle.levels.specs.Level.{level_of, count_of}

-- no level is a NaN
abbrev pub all_are_numbers : List Float → Bool
all_are_numbers [] = true
all_are_numbers (x ∷ xs) = not (is_nan x) && all_are_numbers xs

-- each count lies in -top..top
abbrev pub AllWithin : ℕ → List ℤ → Type 0
AllWithin top cs = AllByRecursion (λ c. unsigned_abs c ≤ top) cs

-- the refusal that is due where n levels are written over a row
abbrev pub export_due : ℕ → List Float → Option Refusal
export_due n row = refused_if (nat_lt (length row) n) Output None

-- The levels of the counts cs are written over the first places of a row, and it is answered how many. A refused row stays.
abbrev pub RowExported : ℕ → List ℤ → List Float → List Float → Result ℕ Refusal → Type 0
RowExported k cs before after r = Outcome (export_due (length cs) before) r (λ n. (n ≡ length cs) × (after ≡ map (level_of k) cs ++ drop (length cs) before)) (after ≡ before)

-- the refusal that is due where the levels xs are read into a row of counts
abbrev pub import_due : List Float → List ℤ → Option Refusal
import_due xs row = refused_unless (length xs == length row) ItemCount (refused_unless (all_are_numbers xs) Range None)

-- The counts of the levels xs take the place of a row of as many. A refused row stays.
abbrev pub RowImported : ℕ → ℕ → List Float → List ℤ → List ℤ → Result Unit Refusal → Type 0
RowImported top k xs before after r = Outcome (import_due xs before) r (λ _. map Some after ≡ map (count_of top k) xs) (after ≡ before)

-- Counts within the top return: an import of their levels over as many counts is accepted, and leaves these counts.
abbrev pub RowsReturn : ℕ → ℕ → Type 0
RowsReturn top k = (cs before after : List ℤ) (r : Result Unit Refusal) → AllWithin top cs → length before ≡ length cs
    → RowImported top k (map (level_of k) cs) before after r → (r ≡ Ok tt) × (after ≡ cs)
