-- What a soft kind means, and the rules that it keeps. Assumes nothing.
use Rattle.std.specs.Prelude.{◌≡◌, ℕ, ◌+◌, ◌*◌, ◌^◌, ◌<◌, ◌≤◌, Bool, not, T, ℤ, pos, ◌+ℤ◌, ◌-ℤ◌, ◌≤ℤ◌, unsigned_abs}
use Rattle.polar.specs.Words.{xor}

-- a sort of value that tells what a received symbol said of its bit
pub record Kind (K : Type 0) : Type 0 where
  -- the limit at 0 turns
  pub unit : ℕ
  -- whether a value fits a number of turns
  pub fitting : K → ℕ → Bool
  -- how far a value falls short of a bit, at a number of turns
  pub shortfall : K → Bool → ℕ → ℕ
  -- what two values say of the sum of their bits
  pub compared : K → K → K
  -- what two values say of the second one's bit, under the sum of their bits
  pub joined : K → K → Bool → K
  -- the bit that a value speaks for
  pub decided : K → Bool

-- the shortfall below which a value is sure of a bit; it doubles with each turn
abbrev pub limit : {K : Type 0} → Kind K → ℕ → ℕ
limit kind turns = kind.unit * 2 ^ turns

-- comparing and joining lose no shortfall, and a value that is sure of a bit decides it
pub record Rules {K : Type 0} (kind : Kind K) : Type 0 where
  -- a unit is 1 to 2047
  pub unit_least : 1 ≤ kind.unit
  pub unit_most : kind.unit ≤ 2047
  -- what is compared fits the same turns, and falls short of the sum of two bits by at most what the two values fall short of theirs
  pub compared_fits : (v w : K) (r : ℕ) → r ≤ 12 → T (kind.fitting v r) → T (kind.fitting w r) → T (kind.fitting (kind.compared v w) r)
  pub compared_short : (v w : K) (b c : Bool) (r : ℕ) → r ≤ 12 → T (kind.fitting v r) → T (kind.fitting w r) → kind.shortfall (kind.compared v w) (xor b c) r ≤ kind.shortfall v b r + kind.shortfall w c r
  -- what is joined fits one turn more, and under the sum of two bits falls short of the second by at most the same, there
  pub joined_fits : (v w : K) (b : Bool) (r : ℕ) → r ≤ 11 → T (kind.fitting v r) → T (kind.fitting w r) → T (kind.fitting (kind.joined v w b) (r + 1))
  pub joined_short : (v w : K) (b c : Bool) (r : ℕ) → r ≤ 11 → T (kind.fitting v r) → T (kind.fitting w r) → kind.shortfall (kind.joined v w (xor b c)) c (r + 1) ≤ kind.shortfall v b r + kind.shortfall w c r
  -- a value that falls short of a bit by less than the limit decides that bit
  pub decided_sure : (v : K) (b : Bool) (r : ℕ) → r ≤ 12 → T (kind.fitting v r) → kind.shortfall v b r < limit kind r → kind.decided v ≡ b

-- how much a value speaks for a bit, at a number of turns
abbrev pub Score : Type 0 → Type 0
Score K = K → Bool → ℕ → ℤ

-- the score of one value for one bit is fair
pub record Fair {K : Type 0} (kind : Kind K) (score : Score K) (v : K) (b : Bool) (r : ℕ) : Type 0 where
  -- it is above the other bit's by at least twice what the shortfall leaves of the limit
  pub apart : pos (2 * limit kind r) ≤ℤ ((score v b r -ℤ score v (not b) r) +ℤ pos (2 * kind.shortfall v b r))
  -- it is at most the limit in size
  pub within : unsigned_abs (score v b r) ≤ limit kind r
  -- the decided bit's is not below the other's
  pub favours : score v (not (kind.decided v)) r ≤ℤ score v (kind.decided v) r

-- a score is fair for each value that fits and each bit
abbrev pub AllFair : {K : Type 0} → Kind K → Score K → Type 0
AllFair {K = K} kind score = (v : K) (b : Bool) (r : ℕ) → r ≤ 12 → T (kind.fitting v r) → Fair kind score v b r
