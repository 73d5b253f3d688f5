-- A scale's floats are exact, and so is the product of a count and the step. Assumes nothing.
use Rattle.std.proofs.Common.{◌≡◌, ℕ, zero, suc, ◌+◌, ◌-◌, ◌*◌, ◌%◌, ◌^◌, ◌<◌, ◌≤◌, Bool, true, false, T, ℤ, pos, negsuc, nat_abs, sym, refl, ap, ◌∙◌, subst, true≢false, lt_of_lt_of_le, mul_assoc, mul-pos, arith, pow_pos, pow_mono, pow-add, shl_lt, lt-ltb}
use native.Mathlib.Nat.{eq_of_mul-eq-mul_right}
use lib.Ieee.{Float, nan, inf, fin, binary32, up, down, round, neg, mul, div, le, fits, of_int, of_bits}
use lib.Ieee.Fits.{down_pos, mul-fits, round-fits}
use lib.Ieee.Exact.{HasValue, round_exact}
use lib.Ieee.Back.{round_whole, whole_unique}
use lib.Ieee.Positive.{positive_of_value, value→cross}
use lib.Ieee.Scale.{round_same}
use Rattle.levels.specs.Level.{Equals, largest_count, exponent_of, negative, IsLevel, level_of}
use Rattle.levels.proofs.Scaling.{mul_by, one_over}
use Rattle.levels.proofs.Unique.{level_unique}

pub value_of : (x : Float) (n d : ℕ) → Equals x n d → HasValue x false n d
value_of nan n d h = absurd (true≢false (sym h.0))
value_of (inf s) n d h = absurd (true≢false (sym h.0))
value_of (fin true m e) n d h = absurd (true≢false (sym h.0))
value_of (fin false m e) n d h = (refl, h.1)

-- a whole number below 2^24, over 2^k
whole_over : (s : Bool) (n k : ℕ) → n < 2 ^ 24 → k ≤ 149 → HasValue (round binary32 s n (2 ^ k)) s n (2 ^ k)
whole_over s n k h l =
    let e : 2 ^ 149 ≡ 2 ^ (149 - k) * 2 ^ k = ap (λ (x : ℕ). 2 ^ x) {x = 149} {y = 149 - k + k} (omega arith) ∙ pow-add 2 (149 - k) k in
    round_exact binary32 s n (2 ^ k) n (149 - k) (pow_pos k) h
    (lt_of_lt_of_le (shl_lt 24 (149 - k) h) (pow_mono {i = 24 + (149 - k)} {j = 277} (omega arith)))
    (ap (λ (x : ℕ). n * x) e ∙ sym (mul_assoc n (2 ^ (149 - k)) (2 ^ k)))

-- ---- count × step
whole_times : (x : Float) (s : Bool) (n k : ℕ) (y : Float) → n < 2 ^ 24 → k ≤ 149 → HasValue x s n 1 → HasValue y false 1 (2 ^ k) → HasValue (mul binary32 x y) s n (2 ^ k)
whole_times nan s n k y h l v w = absurd v
whole_times (inf u) s n k y h l v w = absurd v
whole_times (fin u m e) s n k y h l v w =
    subst (λ (z : Float). HasValue z s n (2 ^ k))
    (sym (mul_by binary32 u m e y 1 (2 ^ k) (pow_pos k) w
    ∙ ap (λ (b : Bool). round binary32 b (m * up e * 1) (down e * 2 ^ k)) v.0
    ∙ round_same binary32 s (m * up e * 1) (down e * 2 ^ k) n (2 ^ k) (mul-pos (down_pos e) (pow_pos k)) (pow_pos k) (omega (arith, ap (λ (z : ℕ). z * 2 ^ k) v.1))))
    (whole_over s n k h l)

count_value : (c : ℤ) → nat_abs c ≤ 2 ^ 24 → HasValue (of_int binary32 c) (negative c) (nat_abs c) 1
unfolding of_int
count_value (pos n) h = round_whole binary32 false n h
count_value (negsuc n) h = round_whole binary32 true (suc n) h

-- the float nearest to c / 2^k is that number itself
pub level_of_count : (k : ℕ) (c : ℤ) → k ≤ 149 → nat_abs c < 2 ^ 24 → IsLevel k c (level_of k c)
level_of_count k c l h = whole_over (negative c) (nat_abs c) k h l

pub level_exact : (k : ℕ) (c : ℤ) (step : Float) → k ≤ 149 → nat_abs c < 2 ^ 24 → Equals step 1 (2 ^ k) → IsLevel k c (mul binary32 (of_int binary32 c) step)
level_exact k c step l h e = whole_times (of_int binary32 c) (negative c) (nat_abs c) k step h l (count_value c (omega arith)) (value_of step 1 (2 ^ k) e)

pub level_value : (k : ℕ) (c : ℤ) (step : Float) → k ≤ 149 → nat_abs c < 2 ^ 24 → Equals step 1 (2 ^ k) → mul binary32 (of_int binary32 c) step ≡ level_of k c
level_value k c step l h e =
    level_unique k c _ (level_of k c) l (mul-fits binary32 _ step) (round-fits binary32 (negative c) (nat_abs c) (2 ^ k)) (level_exact k c step l h e) (level_of_count k c l h)

same_zero : (x : Float) (c : ℕ) → 0 < c → HasValue x false 0 c → HasValue x false 0 1
same_zero nan c C v = absurd v
same_zero (inf s) c C v = absurd v
same_zero (fin s m e) c C v = (v.0, eq_of_mul-eq-mul_right c C (m * up e * 1) (0 * down e) (omega (arith, v.1)))

pub zero_level : (k : ℕ) (step : Float) → k ≤ 149 → Equals step 1 (2 ^ k) → mul binary32 (of_int binary32 (pos 0)) step ≡ fin false 0 (pos 0)
unfolding fits
zero_level k step l e =
    let x = mul binary32 (of_int binary32 (pos 0)) step in
    whole_unique binary32 x (fin false 0 (pos 0)) false 0 (mul-fits binary32 _ step) tt (same_zero x (2 ^ k) (pow_pos k) (level_exact k (pos 0) step l (omega arith) e)) (refl, refl)

-- ---- 1 / step
one_is : of_bits binary32 0x3f80_0000 ≡ fin false 1 (pos 0)
unfolding of_bits
one_is = refl

pub factor_exact : (k : ℕ) (step : Float) → k ≤ 24 → Equals step 1 (2 ^ k) → HasValue (div binary32 (of_bits binary32 0x3f80_0000) step) false (2 ^ k) 1
factor_exact k step l e =
    subst (λ (z : Float). HasValue z false (2 ^ k) 1)
    (sym (ap (λ (z : Float). div binary32 z step) one_is ∙ one_over binary32 step 1 (2 ^ k) (omega arith) (value_of step 1 (2 ^ k) e)))
    (round_whole binary32 false (2 ^ k) (pow_mono l))

-- ---- the two floats of each exponent
abbrev step_at : ℕ → Float
step_at k = div binary32 (of_bits binary32 0x3f80_0000) (of_int binary32 (pos (1 * 2 ^ k % 256)))

pub record Made (k : ℕ) : Type 0 where
  pub exponent : exponent_of (step_at k) ≡ k
  pub step : Equals (step_at k) 1 (2 ^ exponent_of (step_at k))

pub made : (k : ℕ) → k ≤ 6 → Made k
unfolding div of_int of_bits
made zero h = record { exponent = refl; step = (refl, refl) }
made (suc zero) h = record { exponent = refl; step = (refl, refl) }
made (suc (suc zero)) h = record { exponent = refl; step = (refl, refl) }
made (suc (suc (suc zero))) h = record { exponent = refl; step = (refl, refl) }
made (suc (suc (suc (suc zero)))) h = record { exponent = refl; step = (refl, refl) }
made (suc (suc (suc (suc (suc zero))))) h = record { exponent = refl; step = (refl, refl) }
made (suc (suc (suc (suc (suc (suc zero)))))) h = record { exponent = refl; step = (refl, refl) }
made (suc (suc (suc (suc (suc (suc (suc k))))))) h = absurd (omega arith)

-- a top count t times the step
pub top_exact : (t k : ℕ) (x step : Float) → 0 < t → t < 2 ^ 24 → k ≤ 149 → HasValue x false t 1 → Equals step 1 (2 ^ k) → Equals (mul binary32 x step) t (2 ^ k)
top_exact t k x step P h l v e =
    let w = whole_times x false t k step h l v (value_of step 1 (2 ^ k) e) in
    (true_of _ (positive_of_value (mul binary32 x step) t (2 ^ k) w P), value→cross (mul binary32 x step) t (2 ^ k) w)
  where
    true_of : (b : Bool) → T b → b ≡ true
    true_of true t = refl
    true_of false t = absurd t

pub top_is : HasValue (of_bits binary32 0x42fe_0000) false largest_count 1
unfolding of_bits
top_is = (refl, refl)

-- ---- 2^k × top
pub limit_exact : (t k : ℕ) (factor top : Float) → t ≤ 2 ^ 24 → HasValue factor false (2 ^ k) 1 → Equals top t (2 ^ k) → HasValue (mul binary32 factor top) false t 1
limit_exact t k nan top l v e = absurd v
limit_exact t k (inf s) top l v e = absurd v
limit_exact t k (fin true m d) top l v e = absurd (true≢false v.0)
limit_exact t k (fin false m d) top l v e =
    subst (λ (z : Float). HasValue z false t 1)
    (sym (mul_by binary32 false m d top t (2 ^ k) (pow_pos k) (value_of top t (2 ^ k) e)
    ∙ round_same binary32 false (m * up d * t) (down d * 2 ^ k) t 1 (mul-pos (down_pos d) (pow_pos k)) (omega arith) (omega (arith, ap (λ (n : ℕ). n * t) v.1))))
    (round_whole binary32 false t l)

-- -n is at most n
pub ordered : (x : Float) (n : ℕ) → 0 < n → HasValue x false n 1 → T (le (neg x) x)
unfolding neg le
ordered nan n N v = absurd v
ordered (inf s) n N v = absurd v
ordered (fin true m e) n N v = absurd (true≢false v.0)
ordered (fin false m e) n N v = rw (lt-ltb 0 (m * up e * down e + m * up e * down e) (omega (arith, mul-pos (mul-pos N (down_pos e)) (down_pos e), ap (λ (a : ℕ). a * down e) v.1))) tt
