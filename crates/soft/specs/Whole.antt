-- Whole numbers as soft values, sure of bit 0 at a top and of bit 1 at its opposite. Assumes nothing.
use Rattle.std.specs.Prelude.{ℕ, ◌*◌, ◌^◌, min, Bool, cond, ℤ, pos, ◌+ℤ◌, ◌-ℤ◌, neg_ℤ, int_lt, nat_le, unsigned_abs}
use Rattle.polar.specs.Words.{xor}
use Rattle.soft.specs.Kind.{Kind, Score}

-- min-sum: the smaller size, negated where just one of the two is below 0
abbrev pub min_sum : ℤ → ℤ → ℤ
min_sum v w = let size = pos (min (unsigned_abs v) (unsigned_abs w)) in cond (xor (int_lt v (pos 0)) (int_lt w (pos 0))) (neg_ℤ size) size

-- how far a number lies below a limit, for bit 0, or above its opposite, for bit 1
abbrev pub short_of : ℕ → ℤ → Bool → ℕ
short_of most v b = unsigned_abs (cond b (pos most +ℤ v) (pos most -ℤ v))

-- the whole numbers of at most the top in size at 0 turns, and of twice as much with each turn
abbrev pub whole_kind : ℕ → Kind ℤ
whole_kind top = record {
  unit = top;
  fitting = λ v r. nat_le (unsigned_abs v) (top * 2 ^ r);
  shortfall = λ v b r. short_of (top * 2 ^ r) v b;
  compared = min_sum;
  joined = λ v w b. cond b (w -ℤ v) (w +ℤ v);
  decided = λ v. int_lt v (pos 0);
}

-- the number for bit 0, its opposite for bit 1
abbrev pub whole_score : Score ℤ
whole_score v b r = cond b (neg_ℤ v) v
