-- From a float to a count: what a rounding rule has to satisfy, and that clipping, rounding and the cast to an integer then follow `count_by`. Assumes nothing.
use Rattle.std.proofs.Common.{◌≡◌, ℕ, zero, suc, ◌+◌, ◌-◌, ◌*◌, ◌/◌, ◌^◌, ◌<◌, ◌≤◌, min, Bool, true, false, cond, not, T, ltb, ℤ, pos, negsuc, neg_ℤ, nat_abs, Some, unwrap_or, sym, refl, ap, ◌∙◌, inl, inr, true≢false, le_trans, le_of_eq, le_of_lt, mul-le-mul_right, le_antisymm, mul-one, le_of_mul-le-mul_right, mul-div_cancel, arith, pow_pos, ltb-false, ltb-true}
use lib.Ieee.{Float, nan, inf, fin, binary32, up, down, round, neg, mul, lt, is_nan, fits, to_signed}
use Rattle.std.proofs.lemmas.Bool.{cases_lt}
use lib.Ieee.Fits.{down_pos}
use lib.Ieee.Exact.{HasValue}
use lib.Ieee.Back.{round_whole}
use lib.Ieee.Nearest.{div_mono}
use Rattle.std.specs.Float.{float_clamp, round_with}
use Rattle.levels.specs.Rounding.{nearest, ClippingCommutes}
use Rattle.levels.specs.Level.{signed, negative, IsLevel, count_by}
use Rattle.levels.proofs.Scaling.{AtLeast, scaled_exact, round_at_least, mul_by, mul_inf_by, mul_number}

-- A rule that takes a fraction to a whole number: a larger fraction never to a smaller number, and a whole number to itself.
pub record Rounds (p : ℕ → ℕ → ℕ) : Type 0 where
  pub mono : (a b c d : ℕ) → 0 < b → 0 < d → a * d ≤ c * b → p a b ≤ p c d
  pub whole : (n : ℕ) → p n 1 ≡ n

pub nearest_rounds : Rounds nearest
nearest_rounds = record {
  mono = λ a b c d B D h. div_mono (2 * a + b) (2 * b) (2 * c + d) (2 * d) (omega arith) (omega arith) (omega arith);
  whole = λ n. omega arith;
}

pub negated : (x : Float) (n : ℕ) → HasValue x false n 1 → HasValue (neg x) true n 1
unfolding neg
negated nan n v = absurd v
negated (inf s) n v = absurd v
negated (fin s m e) n v = (ap not v.0, v.1)

-- a float with a whole number's value, as a 16-bit integer
pub cast_is : (x : Float) (s : Bool) (n : ℕ) → HasValue x s n 1 → n < 2 ^ 15 → to_signed 15 x ≡ signed s n
unfolding to_signed
cast_is nan s n v h = absurd v
cast_is (inf t) s n v h = absurd v
cast_is (fin t m e) s n v h =
    let c : m * up e / down e ≡ n = ap (λ (x : ℕ). x / down e) (sym (mul-one (m * up e)) ∙ v.1) ∙ mul-div_cancel n (down_pos e) in
    ap (λ (x : ℕ). cond t (neg_ℤ (pos (min x (2 ^ 15)))) (pos (min x (2 ^ 15 - 1)))) c ∙ ap (λ (u : Bool). cond u (neg_ℤ (pos (min n (2 ^ 15)))) (pos (min n (2 ^ 15 - 1)))) v.0 ∙ by_sign s
  where
    by_sign : (u : Bool) → cond u (neg_ℤ (pos (min n (2 ^ 15)))) (pos (min n (2 ^ 15 - 1))) ≡ signed u n
    by_sign true = ap (λ (x : ℕ). neg_ℤ (pos x)) {x = min n (2 ^ 15)} {y = n} (omega arith)
    by_sign false = ap pos {x = min n (2 ^ 15 - 1)} {y = n} (omega arith)

whole_cast : (s : Bool) (n : ℕ) → n < 2 ^ 15 → to_signed 15 (round binary32 s n 1) ≡ signed s n
whole_cast s n h = cast_is _ s n (round_whole binary32 s n (omega arith)) h

signed_back : (c : ℤ) → signed (negative c) (nat_abs c) ≡ c
signed_back (pos n) = refl
signed_back (negsuc n) = refl

signed_size : (s : Bool) (n : ℕ) → nat_abs (signed s n) ≡ n
signed_size true zero = refl
signed_size true (suc n) = refl
signed_size false n = refl

module _ (p : ℕ → ℕ → ℕ) (R : Rounds p) where
  same : (a b c d : ℕ) → 0 < b → 0 < d → a * d ≡ c * b → p a b ≡ p c d
  same a b c d B D e = le_antisymm (R.mono a b c d B D (le_of_eq e)) (R.mono c d a b D B (le_of_eq (sym e)))

  -- the order with a whole number t stays
  at_most : (t a b : ℕ) → 0 < b → a ≤ t * b → p a b ≤ t
  at_most t a b B h = le_trans (R.mono a b t 1 B (omega arith) (omega arith)) (le_of_eq (R.whole t))

  at_least : (t a b : ℕ) → 0 < b → t * b ≤ a → t ≤ p a b
  at_least t a b B h = le_trans (le_of_eq (sym (R.whole t))) (R.mono t 1 a b (omega arith) B (omega arith))

  -- clipped to t, what is t at least gives t
  topped : (t a b : ℕ) → 0 < b → t * b ≤ a → p (min a (t * b)) b ≡ t
  topped t a b B h =
      let o : min a (t * b) ≡ t * b = omega arith in
      ap (λ (x : ℕ). p x b) o ∙ same (t * b) b t 1 B (omega arith) (mul-one (t * b)) ∙ R.whole t

  pub clipping_commutes : ClippingCommutes p
  clipping_commutes t a b B =
      elim (cases_lt (t * b) a) [
        | inl g ↦
            let l : t ≤ p a b = at_least t a b B (le_of_lt g) in
            let m : min t (p a b) ≡ t = omega arith in
            m ∙ sym (topped t a b B (le_of_lt g))
        | inr g ↦
            let l : p a b ≤ t = at_most t a b B g in
            let m : min t (p a b) ≡ p a b = omega arith in
            m ∙ ap (λ (x : ℕ). p x b) {x = a} {y = min a (t * b)} (omega arith)
      ]

  -- a count's own level comes back as that count
  pub back : (t k : ℕ) (c : ℤ) (x : Float) → IsLevel k c x → nat_abs c ≤ t → count_by p t k x ≡ Some c
  back t k c nan v h = absurd v
  back t k c (inf u) v h = absurd v
  back t k c (fin u m e) v h =
      let a = m * up e * 2 ^ k in
      let o : p a (down e) ≡ nat_abs c = same a (down e) (nat_abs c) 1 (down_pos e) (omega arith) (mul-one a ∙ v.1) ∙ R.whole (nat_abs c) in
      let q : min t (p a (down e)) ≡ nat_abs c = omega arith in
      (λ i. Some (signed (v.0 i) ((sym (clipping_commutes t a (down e) (down_pos e)) ∙ q) i))) ∙ ap Some (signed_back c)

  -- no count is beyond the top
  pub within : (t k : ℕ) (x : Float) (c : ℤ) → count_by p t k x ≡ Some c → nat_abs c ≤ t
  within t k nan c h = cc
  within t k (inf s) c h = let e : signed s t ≡ c = cc in omega (arith, ap nat_abs e, signed_size s t)
  within t k (fin s m e) c h =
      let a = min (m * up e * 2 ^ k) (t * down e) in
      let l : p a (down e) ≤ t = at_most t a (down e) (down_pos e) (omega arith) in
      let o : signed s (p a (down e)) ≡ c = cc in
      omega (arith, ap nat_abs o, signed_size s (p a (down e)))

  whole_of : (s : Bool) (m : ℕ) (e : ℤ) → round_with p p binary32 (fin s m e) ≡ round binary32 s (p (m * up e) (down e)) 1
  unfolding round_with
  whole_of true m e = refl
  whole_of false m e = refl

  module _ (t : ℕ) (small : t < 2 ^ 15) where
    -- ---- clipped to lo..hi, the floats of -t and t, then rounded and cast
    cast_whole : (z : Float) (s : Bool) → HasValue z s t 1 → to_signed 15 (round_with p p binary32 z) ≡ signed s t
    cast_whole nan s v = absurd v
    cast_whole (inf u) s v = absurd v
    cast_whole (fin u n d) s v =
        let e : p (n * up d) (down d) ≡ t = same (n * up d) (down d) t 1 (down_pos d) (omega arith) v.1 ∙ R.whole t in
        ap (to_signed 15) (whole_of u n d ∙ (λ i. round binary32 (v.0 i) (e i) 1)) ∙ whole_cast s t small

    by_test : (s : Bool) (m : ℕ) (e : ℤ) (b : Bool) (end : Float) → HasValue end s t 1 → (b ≡ true → t * down e ≤ m * up e) → (b ≡ false → m * up e ≤ t * down e)
        → to_signed 15 (round_with p p binary32 (cond b end (fin s m e))) ≡ signed s (p (min (m * up e * 1) (t * down e)) (down e))
    by_test s m e true end v h k = cast_whole end s v ∙ ap (signed s) (sym (topped t (m * up e * 1) (down e) (down_pos e) (omega (arith, h refl))))
    by_test s m e false end v h k =
        let l : p (m * up e) (down e) ≤ t = at_most t (m * up e) (down e) (down_pos e) (k refl) in
        ap (to_signed 15) (whole_of s m e) ∙ whole_cast s (p (m * up e) (down e)) (omega arith)
        ∙ ap (λ (a : ℕ). signed s (p a (down e))) {x = m * up e} {y = min (m * up e * 1) (t * down e)} (omega (arith, k refl))

    -- t, as the fraction a / d, against b / e
    over : (a d b e : ℕ) → 0 < d → a * 1 ≡ t * d → a * e < b * d → t * e ≤ b
    over a d b e D h l = le_of_mul-le-mul_right {k = d} (omega (arith, ap (λ (x : ℕ). x * e) h)) D

    under : (a d b e : ℕ) → 0 < d → a * 1 ≡ t * d → b * d ≤ a * e → b ≤ t * e
    under a d b e D h l = le_of_mul-le-mul_right {k = d} (omega (arith, ap (λ (x : ℕ). x * e) h)) D

    converted : (y lo hi : Float) → T (not (is_nan y)) → HasValue lo true t 1 → HasValue hi false t 1 → Some (to_signed 15 (round_with p p binary32 (float_clamp y lo hi))) ≡ count_by p t 0 y
    unfolding is_nan lt
    converted y nan hi n L H = absurd L
    converted y (inf u) hi n L H = absurd L
    converted y (fin u a c) nan n L H = absurd H
    converted y (fin u a c) (inf v) n L H = absurd H
    converted nan (fin u a c) (fin v b d) n L H = absurd n
    converted (inf true) (fin u a c) (fin v b d) n L H = ap Some (cast_whole (fin u a c) true L)
    converted (inf false) (fin u a c) (fin v b d) n L H = ap Some (cast_whole (fin v b d) false H)
    converted (fin s m e) (fin false a c) (fin v b d) n L H = absurd (true≢false (sym L.0))
    converted (fin s m e) (fin true a c) (fin true b d) n L H = absurd (true≢false H.0)
    converted (fin true m e) (fin true a c) (fin false b d) n L H =
        ap Some (by_test true m e (ltb (a * up c * down e) (m * up e * down c)) (fin true a c) L
        (λ h. over (a * up c) (down c) (m * up e) (down e) (down_pos c) L.1 (ltb-true _ _ h))
        (λ h. under (a * up c) (down c) (m * up e) (down e) (down_pos c) L.1 (ltb-false _ _ h)))
    converted (fin false m e) (fin true a c) (fin false b d) n L H =
        ap Some (by_test false m e (ltb (b * up d * down e) (m * up e * down d)) (fin false b d) H
        (λ h. over (b * up d) (down d) (m * up e) (down e) (down_pos d) H.1 (ltb-true _ _ h))
        (λ h. under (b * up d) (down d) (m * up e) (down e) (down_pos d) H.1 (ltb-false _ _ h)))

    -- ---- 2^k times a level: exact, or at least 2^15 and so beyond the top either way
    by_value : (z : Float) (s : Bool) (a d : ℕ) → 0 < d → HasValue z s a d → count_by p t 0 z ≡ Some (signed s (p (min a (t * d)) d))
    by_value nan s a d D v = absurd v
    by_value (inf u) s a d D v = absurd v
    by_value (fin u m e) s a d D v =
        let n = m * up e * 1 in
        let o : p (min n (t * down e)) (down e) ≡ p (min a (t * d)) d =
        sym (clipping_commutes t n (down e) (down_pos e))
        ∙ ap (min t) (same n (down e) a d (down_pos e) D (ap (λ (x : ℕ). x * d) (mul-one (m * up e)) ∙ v.1))
        ∙ clipping_commutes t a d D
        in
        λ i. Some (signed (v.0 i) (o i))

    by_size : (z : Float) (s : Bool) → AtLeast z s 15 → count_by p t 0 z ≡ Some (signed s t)
    by_size nan s v = absurd v
    by_size (inf u) s v = ap (λ (b : Bool). Some (signed b t)) v
    by_size (fin u m e) s v =
        let o = topped t (m * up e * 1) (down e) (down_pos e) (omega (arith, v.1, mul-le-mul_right (down e) (le_of_lt small))) in
        λ i. Some (signed (v.0 i) (o i))

    scaled : (x : Float) (k : ℕ) (y : Float) → T (fits binary32 x) → T (not (is_nan x)) → HasValue y false (2 ^ k) 1 → count_by p t 0 (mul binary32 x y) ≡ count_by p t k x
    unfolding is_nan
    scaled nan k y f n v = absurd n
    scaled (inf s) k y f n v = ap (count_by p t 0) (mul_inf_by binary32 s y (2 ^ k) 1 (pow_pos k) v)
    scaled (fin s m e) k y f n v =
        let a = m * up e * 2 ^ k in
        let r : mul binary32 (fin s m e) y ≡ round binary32 s a (down e) = mul_by binary32 s m e y (2 ^ k) 1 (omega arith) v ∙ ap (round binary32 s a) (mul-one (down e)) in
        ap (count_by p t 0) r
        ∙ elim (cases_lt a (2 ^ 15 * down e)) [
          | inl g ↦ by_value (round binary32 s a (down e)) s a (down e) (down_pos e) (scaled_exact binary32 s m e k f (omega (arith, down_pos e)))
          | inr g ↦
              by_size (round binary32 s a (down e)) s (round_at_least binary32 s a (down e) 15 (down_pos e) g)
              ∙ ap (λ (q : ℕ). Some (signed s q)) (sym (topped t a (down e) (down_pos e) (le_trans (mul-le-mul_right (down e) (le_of_lt small)) g)))
        ]

    -- what a function returns that multiplies x by y, clips to -hi..hi, rounds and casts
    pub counted : (x : Float) (k : ℕ) (y hi z : Float) (r : ℤ) → T (fits binary32 x) → T (not (is_nan x)) → HasValue y false (2 ^ k) 1 → HasValue hi false t 1
        → z ≡ float_clamp (mul binary32 x y) (neg hi) hi → r ≡ to_signed 15 (round_with p p binary32 z) → count_by p t k x ≡ Some r
    counted x k y hi z r f n v h e₀ e₁ =
        sym (scaled x k y f n v)
        ∙ sym (converted (mul binary32 x y) (neg hi) hi (mul_number binary32 x y (2 ^ k) 1 n (pow_pos k) (omega arith) v) (negated hi t h) h)
        ∙ ap Some (ap (λ (u : Float). to_signed 15 (round_with p p binary32 u)) (sym e₀) ∙ sym e₁)

    -- what is not a number stays so, and is cast to 0
    counted_nan : (y hi z : Float) (r : ℤ) → HasValue hi false t 1 → z ≡ float_clamp (mul binary32 nan y) (neg hi) hi → r ≡ to_signed 15 (round_with p p binary32 z) → r ≡ pos 0
    unfolding mul lt neg round_with to_signed
    counted_nan y nan z r h e₀ e₁ = absurd h
    counted_nan y (inf s) z r h e₀ e₁ = absurd h
    counted_nan y (fin s m e) z r h e₀ e₁ = e₁ ∙ ap (λ (u : Float). to_signed 15 (round_with p p binary32 u)) e₀

    pub counted_or_zero : (x : Float) (k : ℕ) (y hi z : Float) (r : ℤ) → T (fits binary32 x) → HasValue y false (2 ^ k) 1 → HasValue hi false t 1
        → z ≡ float_clamp (mul binary32 x y) (neg hi) hi → r ≡ to_signed 15 (round_with p p binary32 z) → r ≡ unwrap_or (count_by p t k x) (pos 0)
    unfolding is_nan
    counted_or_zero nan k y hi z r f v h e₀ e₁ = counted_nan y hi z r h e₀ e₁
    counted_or_zero (inf s) k y hi z r f v h e₀ e₁ = ap (λ o. unwrap_or o (pos 0)) (sym (counted (inf s) k y hi z r f tt v h e₀ e₁))
    counted_or_zero (fin s m e) k y hi z r f v h e₀ e₁ = ap (λ o. unwrap_or o (pos 0)) (sym (counted (fin s m e) k y hi z r f tt v h e₀ e₁))
