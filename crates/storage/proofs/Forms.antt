-- The bytes of a number, and what is written is read back. Assumes nothing.
use Rattle.std.proofs.Common.{◌≡◌, ℕ, zero, suc, ◌+◌, ◌-◌, ◌*◌, ◌/◌, ◌%◌, ◌^◌, ◌<◌, ◌≤◌, true, false, cond, ◌&&◌, ltb, leb, ◌⊎◌, List, [], ◌∷◌, ◌++◌, length, sym, refl, ap, ◌∙◌, subst, inl, inr, ⊎_elim, arith}
use Rattle.storage.specs.Laws.{Bytes}
use Rattle.std.proofs.lemmas.Bool.{lt-ltb, le-ltb, ne_eqb, and_parts, leb-true, cond-true, cond-false, cond_both, cases_lt, cases_Bool}
use Rattle.polar.specs.declared.refusal.Refusal.{Refusal}
use Rattle.polar.specs.declared.refusal.Refusal.TheVariants.{FieldRule}
use Rattle.storage.specs.Stored.{groups, number}
use Rattle.storage.specs.Reading.{Read, Reader, got, refused, then, mapped, byte_at, number_at, field_at}
use Rattle.storage.proofs.Steps.{number_one, number_two, number_three, field_kept}

-- the reading gives x, and `rest` follows
abbrev pub Gets : {A : Type 0} → Read A → A → List ℕ → Type 0
Gets read x rest = (at : ℕ) × (read ≡ got x at rest)

-- what was read is read once, and is no refusal
pub never_refused : {A : Type 0} {x : A} {at : ℕ} {rest : List ℕ} {r : Refusal} → refused r ≡ got x at rest → ⊥
never_refused e = cc

pub got_value : {A : Type 0} {x y : A} {at at' : ℕ} {rest rest' : List ℕ} → got x at rest ≡ got y at' rest' → x ≡ y
got_value e = cc

pub got_rest : {A : Type 0} {x y : A} {at at' : ℕ} {rest rest' : List ℕ} → got x at rest ≡ got y at' rest' → rest ≡ rest'
got_rest e = cc

-- a value that came through `then` or `mapped`
pub record Via {A B : Type 0} (r : Read A) (next : A → Reader B) (y : B) (at : ℕ) (rest : List ℕ) : Type 0 where
  pub value : A
  pub place : ℕ
  pub bytes : List ℕ
  pub came : r ≡ got value place bytes
  pub goes : next value place bytes ≡ got y at rest

pub via : {A B : Type 0} (r : Read A) (next : A → Reader B) (y : B) (at : ℕ) (rest : List ℕ) → then r next ≡ got y at rest → Via r next y at rest
via (got x p bs) next y at rest e = record { value = x; place = p; bytes = bs; came = refl; goes = e }
via (refused r) next y at rest e = absurd (never_refused e)

pub unmapped : {A B : Type 0} (f : A → B) (r : Read A) (y : B) (at : ℕ) (rest : List ℕ) → mapped f r ≡ got y at rest → (x : A) × (r ≡ got x at rest) × (y ≡ f x)
unmapped f (got x p bs) y at rest e = (x, cc, sym (got_value e))
unmapped f (refused r) y at rest e = absurd (never_refused e)

-- the bytes that a number may have
pub data Shaped : ℕ → List ℕ → Type 0 where
  one : (a : ℕ) → a < 128 → Shaped a (a ∷ [])
  two : (a b : ℕ) → a < 128 → 0 < b → b < 128 → Shaped (a + 128 * b) ((128 + a) ∷ b ∷ [])
  three : (a b c : ℕ) → a < 128 → b < 128 → 0 < c → c < 128 → Shaped (a + 128 * b + 16384 * c) ((128 + a) ∷ (128 + b) ∷ c ∷ [])

-- they are those that are written
pub shaped_number : (n : ℕ) (bytes : List ℕ) → Shaped n bytes → number n ≡ bytes
unfolding groups
shaped_number n bytes (one a h) = cond-true _ _ _ (lt-ltb a 128 h)
shaped_number n bytes (two a b h some k) =
    let q : (a + 128 * b) / 128 ≡ b = omega arith in
    let r : (a + 128 * b) % 128 ≡ a = omega arith in
    cond-false _ _ _ (le-ltb (a + 128 * b) 128 (omega arith)) ∙ rw (q, r) (ap (λ l. (128 + a) ∷ l) (cond-true _ _ _ (lt-ltb b 128 k)))
shaped_number n bytes (three a b c h k some l) =
    let q : (a + 128 * b + 16384 * c) / 128 ≡ b + 128 * c = omega arith in
    let r : (a + 128 * b + 16384 * c) % 128 ≡ a = omega arith in
    let s : (b + 128 * c) / 128 ≡ c = omega arith in
    let t : (b + 128 * c) % 128 ≡ b = omega arith in
    cond-false _ _ _ (le-ltb (a + 128 * b + 16384 * c) 128 (omega arith))
    ∙ rw (q, r) (ap (λ l. (128 + a) ∷ l) (cond-false _ _ _ (le-ltb (b + 128 * c) 128 (omega arith)) ∙ rw (s, t) refl))

shape_two : (n : ℕ) → 128 ≤ n → n < 16384 → Shaped n ((128 + n % 128) ∷ (n / 128) ∷ [])
shape_two n a b =
    let e : n % 128 + 128 * (n / 128) ≡ n = omega arith in
    subst (λ m. Shaped m ((128 + n % 128) ∷ (n / 128) ∷ [])) e (two (n % 128) (n / 128) (omega arith) (omega arith) (omega arith))

shape_three : (n : ℕ) → 16384 ≤ n → n < 2 ^ 21 → Shaped n ((128 + n % 128) ∷ (128 + n / 128 % 128) ∷ (n / 16384) ∷ [])
shape_three n a b =
    let e : n % 128 + 128 * (n / 128 % 128) + 16384 * (n / 16384) ≡ n = omega arith in
    subst (λ m. Shaped m ((128 + n % 128) ∷ (128 + n / 128 % 128) ∷ (n / 16384) ∷ [])) e (three (n % 128) (n / 128 % 128) (n / 16384) (omega arith) (omega arith) (omega arith) (omega arith))

pub number_shaped : (n : ℕ) → n < 2 ^ 21 → (bytes : List ℕ) × Shaped n bytes
number_shaped n h =
    ⊎_elim (λ a. (_, one n a))
    (λ a. ⊎_elim (λ b. (_, shape_two n a b)) (λ b. (_, shape_three n b h)) (cases_lt n 16384)) (cases_lt n 128)

pub in_one : (n : ℕ) → n < 128 → number n ≡ n ∷ []
in_one n h = shaped_number n _ (one n h)

pub in_two : (n : ℕ) → 128 ≤ n → n < 16384 → number n ≡ (128 + n % 128) ∷ (n / 128) ∷ []
in_two n a b = shaped_number n _ (shape_two n a b)

pub in_three : (n : ℕ) → 16384 ≤ n → n < 2 ^ 21 → number n ≡ (128 + n % 128) ∷ (128 + n / 128 % 128) ∷ (n / 16384) ∷ []
in_three n a b = shaped_number n _ (shape_three n a b)

-- a number takes one to three bytes
groups_length : (more n : ℕ) → (1 ≤ length (groups more n)) × (length (groups more n) ≤ suc more)
unfolding groups
groups_length zero n = (omega arith, omega arith)
groups_length (suc more) n =
    let h = groups_length more (n / 128) in
    cond_both (ltb n 128) (n ∷ []) ((128 + n % 128) ∷ groups more (n / 128)) (λ l. (1 ≤ length l) × (length l ≤ suc (suc more)))
    (λ _. (omega arith, omega arith)) (λ _. (omega arith, omega (arith, h.1)))

pub number_some : (n : ℕ) → 1 ≤ length (number n)
number_some n = (groups_length 2 n).0

number_short : (n : ℕ) → length (number n) ≤ 3
number_short n = (groups_length 2 n).1

-- no more bytes than its value, unless that is 0
pub number_within : (n : ℕ) → 1 ≤ n → length (number n) ≤ n
number_within n h = ⊎_elim (λ l. omega (arith, ap length (in_one n l))) (λ l. omega (arith, number_short n)) (cases_lt n 128)

-- two bytes below 2 ^ 14
pub number_below : (n : ℕ) → n < 16384 → length (number n) ≤ 2
number_below n h = ⊎_elim (λ l. omega (arith, ap length (in_one n l))) (λ l. omega (arith, ap length (in_two n l h))) (cases_lt n 128)

-- what is written is read
pub shaped_read : (n : ℕ) (bytes : List ℕ) (at : ℕ) (rest : List ℕ) → Shaped n bytes → Gets (number_at at (bytes ++ rest)) n rest
unfolding byte_at
shaped_read n bytes at rest (one a h) = (_, number_one _ _ refl h)
shaped_read n bytes at rest (two a b h some k) =
    let back : 128 + a - 128 ≡ a = omega arith in
    (_, number_two _ _ refl (omega arith) refl k ∙ cond-false _ _ _ (ne_eqb b 0 (omega arith)) ∙ ap (λ x. got (x + 128 * b) (at + 1 + 1) rest) back)
shaped_read n bytes at rest (three a b c h k some l) =
    let back : 128 + a - 128 ≡ a = omega arith in
    let also : 128 + b - 128 ≡ b = omega arith in (
      _,
      number_three _ _ refl (omega arith) refl (omega arith) refl l ∙ cond-false _ _ _ (ne_eqb c 0 (omega arith))
          ∙ ap (λ x. got (x + 128 * (128 + b - 128) + 16384 * c) (at + 1 + 1 + 1) rest) back ∙ ap (λ x. got (a + 128 * x + 16384 * c) (at + 1 + 1 + 1) rest) also,
    )

pub number_read : (n at : ℕ) (rest : List ℕ) → n < 2 ^ 21 → Gets (number_at at (number n ++ rest)) n rest
number_read n at rest h =
    let s = number_shaped n h in
    rw (shaped_number n s.0 s.1) (shaped_read n s.0 at rest s.1)

pub bytes_after : (xs ys : List ℕ) → Bytes (xs ++ ys) → Bytes ys
bytes_after [] ys h = h
bytes_after (x ∷ xs) ys h = bytes_after xs ys h.1

-- a field is written and read as its number, within its bounds
pub field_read : (low high n at : ℕ) (rest : List ℕ) → n < 2 ^ 21 → low ≤ n → n ≤ high → Gets (field_at low high at (number n ++ rest)) n rest
field_read low high n at rest small l h = let g = number_read n at rest small in (g.0, field_kept low high at (number n ++ rest) g.1 l h)

-- a field that was read is a number within its bounds
pub record Bounded (low high at n at' : ℕ) (bytes rest : List ℕ) : Type 0 where
  pub is : number_at at bytes ≡ got n at' rest
  pub least : low ≤ n
  pub most : n ≤ high

pub field_bounded : (low high at : ℕ) (bytes : List ℕ) (n at' : ℕ) (rest : List ℕ) → field_at low high at bytes ≡ got n at' rest → Bounded low high at n at' bytes rest
unfolding field_at
field_bounded low high at bytes n at' rest e = by (cases_Bool (leb low v.value && leb v.value high))
  where
    v : Via (number_at at bytes) (λ value at₁ bytes₁. cond (leb low value && leb value high) (got value at₁ bytes₁) (refused (FieldRule at))) n at' rest
    v = via _ _ n at' rest e

    by : ((leb low v.value && leb v.value high) ≡ true) ⊎ ((leb low v.value && leb v.value high) ≡ false) → Bounded low high at n at' bytes rest
    by (inl t) =
        let g = sym (cond-true _ _ _ t) ∙ v.goes in
        let p = and_parts _ _ t in
        record {
          is = v.came ∙ g;
          least = subst (λ x. low ≤ x) (got_value g) (leb-true low v.value p.0);
          most = subst (λ x. x ≤ high) (got_value g) (leb-true v.value high p.1);
        }
    by (inr f) = absurd (never_refused (sym (cond-false _ _ _ f) ∙ v.goes))
