-- Whole numbers keep the rules of a soft kind, and their score is fair, at any top. Assumes nothing.
use Rattle.std.specs.Prelude.{◌≡◌, ℕ, ◌+◌, ◌*◌, ◌^◌, ◌<◌, ◌≤◌, Bool, true, false, cond, not, ℤ, pos, ◌+ℤ◌, ◌-ℤ◌, ◌≤ℤ◌, int_lt, unsigned_abs}
use Rattle.std.proofs.Common.{arith, leb→le, le→leb, pow-add}
use Rattle.std.proofs.lemmas.Int.{ints}
use Rattle.polar.specs.Words.{xor}
use Rattle.soft.specs.Kind.{Rules, AllFair}
use Rattle.soft.specs.Whole.{min_sum, short_of, whole_kind, whole_score}

-- the rules at one limit `most`, or at that and its double
min_sum_fits : (v w : ℤ) (most : ℕ) → unsigned_abs v ≤ most → unsigned_abs w ≤ most → unsigned_abs (min_sum v w) ≤ most
min_sum_fits v w most p q = grind (arith, ints)

min_sum_short : (v w : ℤ) (b c : Bool) (most : ℕ) → unsigned_abs v ≤ most → unsigned_abs w ≤ most → short_of most (min_sum v w) (xor b c) ≤ short_of most v b + short_of most w c
min_sum_short v w b c most p q = grind (arith, ints)

join_fits : (v w : ℤ) (b : Bool) (most twice : ℕ) → twice ≡ most + most → unsigned_abs v ≤ most → unsigned_abs w ≤ most → unsigned_abs (cond b (w -ℤ v) (w +ℤ v)) ≤ twice
join_fits v w b most twice e p q = grind (arith, ints)

join_short : (v w : ℤ) (b c : Bool) (most twice : ℕ) → twice ≡ most + most → unsigned_abs v ≤ most → unsigned_abs w ≤ most → short_of twice (cond (xor b c) (w -ℤ v) (w +ℤ v)) c ≤ short_of most v b + short_of most w c
join_short v w true true most twice e p q = omega (arith, ints)
join_short v w true false most twice e p q = omega (arith, ints)
join_short v w false true most twice e p q = omega (arith, ints)
join_short v w false false most twice e p q = omega (arith, ints)

decide_sure : (v : ℤ) (b : Bool) (most : ℕ) → unsigned_abs v ≤ most → short_of most v b < most → int_lt v (pos 0) ≡ b
decide_sure v b most p h = grind (arith, ints)

score_apart : (v : ℤ) (b : Bool) (r most : ℕ) → unsigned_abs v ≤ most → pos (2 * most) ≤ℤ ((whole_score v b r -ℤ whole_score v (not b) r) +ℤ pos (2 * short_of most v b))
score_apart v b r most p = grind (arith, ints)

-- the limit doubles with each turn
doubled : (top r : ℕ) → top * 2 ^ (r + 1) ≡ top * 2 ^ r + top * 2 ^ r
doubled top r = rw (pow-add 2 r 1) (omega arith)

pub whole_rules : (top : ℕ) → 1 ≤ top → top ≤ 2047 → Rules (whole_kind top)
whole_rules top least most = record {
  unit_least = least;
  unit_most = most;
  compared_fits = λ v w r small p q. le→leb _ _ (min_sum_fits v w (top * 2 ^ r) (leb→le _ _ p) (leb→le _ _ q));
  compared_short = λ v w b c r small p q. min_sum_short v w b c (top * 2 ^ r) (leb→le _ _ p) (leb→le _ _ q);
  joined_fits = λ v w b r small p q. le→leb _ _ (join_fits v w b (top * 2 ^ r) _ (doubled top r) (leb→le _ _ p) (leb→le _ _ q));
  joined_short = λ v w b c r small p q. join_short v w b c (top * 2 ^ r) _ (doubled top r) (leb→le _ _ p) (leb→le _ _ q);
  decided_sure = λ v b r small p. decide_sure v b (top * 2 ^ r) (leb→le _ _ p);
}

pub whole_fair : (top : ℕ) → AllFair (whole_kind top) whole_score
whole_fair top v b r small p = record {
  apart = score_apart v b r (top * 2 ^ r) (leb→le _ _ p);
  within = grind (arith, ints, leb→le _ _ p);
  favours = grind (arith, ints);
}
