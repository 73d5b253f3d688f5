-- The erasures: a bit that was received, or nothing. Assumes nothing.
use Rattle.std.specs.Prelude.{ℕ, ◌^◌, Bool, true, false, cond, pos, neg_ℤ}
use Rattle.soft.specs.Kind.{Kind, Score}
use Rattle.soft.specs.declared.erasure.Erasure.{Erasure}
use Rattle.soft.specs.declared.erasure.Erasure.TheVariants.{Zero, One, Unknown}

-- a known value plus a bit
abbrev pub moved : Erasure → Bool → Erasure
moved Zero b = cond b One Zero
moved One b = cond b Zero One
moved Unknown b = Unknown

-- the sum of two known values; unknown where either is
abbrev pub summed : Erasure → Erasure → Erasure
summed Zero w = w
summed One w = moved w true
summed Unknown w = Unknown

-- what two values say of one bit: an unknown one gives way, and two that differ leave it unknown
abbrev pub agreed : Erasure → Erasure → Erasure
agreed Unknown w = w
agreed Zero Zero = Zero
agreed Zero One = Unknown
agreed Zero Unknown = Zero
agreed One Zero = Unknown
agreed One One = One
agreed One Unknown = One

-- the bit of a known value; 0 of an unknown one
abbrev pub erasure_decided : Erasure → Bool
erasure_decided Zero = false
erasure_decided One = true
erasure_decided Unknown = false

-- how far a known value falls short of the other bit: above every limit
abbrev pub far_short : ℕ
far_short = 8192

-- none from the same bit, the limit itself where unknown
abbrev pub erasure_shortfall : Erasure → Bool → ℕ → ℕ
erasure_shortfall Zero b r = cond b far_short 0
erasure_shortfall One b r = cond b 0 far_short
erasure_shortfall Unknown b r = 2 ^ r

-- the kind of erasures: every value fits
abbrev pub erasure_kind : Kind Erasure
erasure_kind = record {
  unit = 1;
  fitting = λ v r. true;
  shortfall = erasure_shortfall;
  compared = summed;
  joined = λ v w b. agreed (moved v b) w;
  decided = erasure_decided;
}

-- the limit for the same bit, its opposite for the other, and 0 of an unknown value
abbrev pub erasure_score : Score Erasure
erasure_score Zero b r = cond b (neg_ℤ (pos (2 ^ r))) (pos (2 ^ r))
erasure_score One b r = cond b (pos (2 ^ r)) (neg_ℤ (pos (2 ^ r)))
erasure_score Unknown b r = pos 0
