-- Counts and levels. On a scale with exponent k a count c stands for the level c / 2^k.
-- A finite float is `fin s m e`, the number m * 2^e, negative where s is true; its size is the fraction `m * up e / down e`. Assumes nothing.
use Rattle.std.specs.Prelude.{◌≡◌, ℕ, suc, ◌*◌, ◌^◌, min, Bool, true, false, ℤ, pos, negsuc, neg_ℤ, Some, None, Option, unsigned_abs, Float}
use Rattle.std.specs.Float.{nan, inf, fin, binary32}
use Rattle.std.specs.Float.Ieee.{up, down, round}
use Rattle.std.specs.Float.Ieee.Exact.{HasValue}
use Rattle.std.specs.Float.Ieee.Positive.{num, den, positive}
use Rattle.levels.specs.Rounding.{nearest}

-- the largest count
abbrev pub largest_count : ℕ
largest_count = 127

-- the largest exponent
abbrev pub top_exponent : ℕ
top_exponent = 6

-- the exponent k of a scale, by its step 1 / 2^k
abbrev pub exponent_of : Float → ℕ
exponent_of nan = 0
exponent_of (inf s) = 0
exponent_of (fin s m (pos a)) = 0
exponent_of (fin s m (negsuc a)) = suc a

-- x is the number n / d itself, above zero
abbrev pub Equals : Float → ℕ → ℕ → Type 0
Equals x n d = (positive x ≡ true) × (num x * d ≡ n * den x)

-- a count is below zero
abbrev pub negative : ℤ → Bool
negative (pos n) = false
negative (negsuc n) = true

-- x is the number c / 2^k itself: finite, with c's sign, and |c| / 2^k in size; for c = 0 it is positive zero
abbrev pub IsLevel : ℕ → ℤ → Float → Type 0
IsLevel k c x = HasValue x (negative c) (unsigned_abs c) (2 ^ k)

-- the level of a count: the float nearest to c / 2^k
abbrev pub level_of : ℕ → ℤ → Float
level_of k c = round binary32 (negative c) (unsigned_abs c) (2 ^ k)

-- n, or -n where the sign is true
abbrev pub signed : Bool → ℕ → ℤ
signed false n = pos n
signed true n = neg_ℤ (pos n)

-- The count of a level x under the rule p: x * 2^k is clipped to -top..top, and what is left is taken to a whole number by p.
-- An infinity clips; what is not a number has no count.
abbrev pub count_by : (ℕ → ℕ → ℕ) → ℕ → ℕ → Float → Option ℤ
count_by p top k nan = None
count_by p top k (inf s) = Some (signed s top)
count_by p top k (fin s m e) = Some (signed s (p (min (m * up e * 2 ^ k) (top * down e)) (down e)))

-- the count of a level: the nearest, halves away from zero
abbrev pub count_of : ℕ → ℕ → Float → Option ℤ
count_of top k x = count_by nearest top k x
