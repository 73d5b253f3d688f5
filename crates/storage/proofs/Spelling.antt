-- A number is read where its form stands, the input ends within a form, or there is no form; so what is read was written.
-- Assumes nothing.
use Rattle.std.proofs.Common.{◌≡◌, ℕ, ◌+◌, ◌-◌, ◌*◌, ◌^◌, ◌<◌, ◌≤◌, List, [], ◌∷◌, ◌++◌, length, sym, refl, ap, ◌∙◌, subst, inl, inr, ⊎_elim, arith}
use Rattle.std.proofs.lemmas.Bool.{eq-eqb, ne_eqb, cond-true, cond-false, cases_lt, cases_eq}
use Rattle.polar.specs.declared.refusal.Refusal.TheVariants.{InputEnds}
use Rattle.storage.specs.Stored.{number}
use Rattle.storage.specs.Reading.{Read, got, byte_at, number_at, field_at}
use Rattle.storage.specs.Laws.{Bytes, Cut, Formless, Says, NumbersAreRead}
use Rattle.storage.proofs.Forms.{Shaped, one, two, three, shaped_number, number_shaped, field_bounded}
use Rattle.storage.proofs.Steps.{number_cut, number_one, number_cut_two, number_two, number_cut_three, number_three, number_long}

-- the reading, where it is known
said : (at : ℕ) (bytes : List ℕ) {read : Read ℕ} → number_at at bytes ≡ read → Says at bytes read → Says at bytes (number_at at bytes)
said at bytes e s = subst (Says at bytes) (sym e) s

-- a number of a known form was read
spelt : (at : ℕ) (n : ℕ) (form rest : List ℕ) (at' : ℕ) → n < 2 ^ 21 → Shaped n form → at' ≡ at + length form → Says at (form ++ rest) (got n at' rest)
spelt at n form rest at' small s e =
    let f = shaped_number n form s in
    (small, ap (λ l. l ++ rest) (sym f), e ∙ ap (λ l. at + length l) (sym f))

-- the form of n, and a first part of it
cut : (n : ℕ) (bytes tail : List ℕ) → n < 2 ^ 21 → 0 < length tail → Shaped n (bytes ++ tail) → Cut bytes
cut n bytes tail small some s = (n, tail, small, some, shaped_number n (bytes ++ tail) s)

-- no form agrees with the bytes, whatever follows either
formless : (bytes : List ℕ) → ((n : ℕ) (form rest tail : List ℕ) → Shaped n form → bytes ++ tail ≡ form ++ rest → ⊥) → Formless bytes
formless bytes none n rest tail small e =
    let s = number_shaped n small in
    none n s.0 rest tail s.1 (e ∙ ap (λ l. l ++ rest) (shaped_number n s.0 s.1))

two_zero : (a : ℕ) (bytes : List ℕ) → 128 ≤ a → (n : ℕ) (form rest tail : List ℕ) → Shaped n form → (a ∷ 0 ∷ bytes) ++ tail ≡ form ++ rest → ⊥
two_zero a bytes h n form rest tail (one x l) e = let p : a ≡ x = cc in omega arith
two_zero a bytes h n form rest tail (two x y l some m) e = let p : 0 ≡ y = cc in omega arith
two_zero a bytes h n form rest tail (three x y z l m some k) e = let p : 0 ≡ 128 + y = cc in omega arith

three_zero : (a b : ℕ) (bytes : List ℕ) → 128 ≤ a → 128 ≤ b → (n : ℕ) (form rest tail : List ℕ) → Shaped n form → (a ∷ b ∷ 0 ∷ bytes) ++ tail ≡ form ++ rest → ⊥
three_zero a b bytes h h' n form rest tail (one x l) e = let p : a ≡ x = cc in omega arith
three_zero a b bytes h h' n form rest tail (two x y l some m) e = let p : b ≡ y = cc in omega arith
three_zero a b bytes h h' n form rest tail (three x y z l m some k) e = let p : 0 ≡ z = cc in omega arith

four : (a b c : ℕ) (bytes : List ℕ) → 128 ≤ a → 128 ≤ b → 128 ≤ c → (n : ℕ) (form rest tail : List ℕ) → Shaped n form → (a ∷ b ∷ c ∷ bytes) ++ tail ≡ form ++ rest → ⊥
four a b c bytes h h' h'' n form rest tail (one x l) e = let p : a ≡ x = cc in omega arith
four a b c bytes h h' h'' n form rest tail (two x y l some m) e = let p : b ≡ y = cc in omega arith
four a b c bytes h h' h'' n form rest tail (three x y z l m some k) e = let p : c ≡ z = cc in omega arith

-- a first byte that another follows
back : (a : ℕ) → 128 ≤ a → 128 + (a - 128) ≡ a
back a h = omega arith

of_two : (a b : ℕ) → a < 256 → 128 ≤ a → 0 < b → b < 128 → Shaped (a - 128 + 128 * b) (a ∷ b ∷ [])
of_two a b small h some k = subst (λ x. Shaped (a - 128 + 128 * b) (x ∷ b ∷ [])) (back a h) (two (a - 128) b (omega arith) some k)

of_three : (a b c : ℕ) → a < 256 → 128 ≤ a → b < 256 → 128 ≤ b → 0 < c → c < 128 → Shaped (a - 128 + 128 * (b - 128) + 16384 * c) (a ∷ b ∷ c ∷ [])
of_three a b c small h small' h' some k =
    subst (λ x. Shaped (a - 128 + 128 * (b - 128) + 16384 * c) (x ∷ b ∷ c ∷ [])) (back a h)
    (subst (λ y. Shaped (a - 128 + 128 * (b - 128) + 16384 * c) ((128 + (a - 128)) ∷ y ∷ c ∷ [])) (back b h') (three (a - 128) (b - 128) c (omega arith) (omega arith) some k))

says_one : (at a : ℕ) (bytes : List ℕ) → a < 128 → Says at (a ∷ bytes) (number_at at (a ∷ bytes))
unfolding byte_at
says_one at a bytes h = said at (a ∷ bytes) (number_one at (a ∷ bytes) refl h) (spelt at a (a ∷ []) bytes (at + 1) (omega arith) (one a h) refl)

says_two : (at a b : ℕ) (bytes : List ℕ) → a < 256 → 128 ≤ a → b < 128 → Says at (a ∷ b ∷ bytes) (number_at at (a ∷ b ∷ bytes))
unfolding byte_at
says_two at a b bytes small h k =
    let e = number_two at (a ∷ b ∷ bytes) refl h refl k in
    ⊎_elim
    (λ z. said at (a ∷ b ∷ bytes) (e ∙ cond-true _ _ _ (eq-eqb b 0 z)) (inr (refl, subst (λ y. Formless (a ∷ y ∷ bytes)) (sym z) (formless (a ∷ 0 ∷ bytes) (two_zero a bytes h)))))
    (λ z. said at (a ∷ b ∷ bytes) (e ∙ cond-false _ _ _ (ne_eqb b 0 z)) (spelt at (a - 128 + 128 * b) (a ∷ b ∷ []) bytes (at + 1 + 1) (omega arith) (of_two a b small h (omega arith) k) (omega arith)))
    (cases_eq b 0)

says_three : (at a b c : ℕ) (bytes : List ℕ) → a < 256 → 128 ≤ a → b < 256 → 128 ≤ b → Says at (a ∷ b ∷ c ∷ bytes) (number_at at (a ∷ b ∷ c ∷ bytes))
unfolding byte_at
says_three at a b c bytes small h small' h' =
    ⊎_elim
    (λ k. let e = number_three at (a ∷ b ∷ c ∷ bytes) refl h refl h' refl k in
    ⊎_elim
    (λ z. said at (a ∷ b ∷ c ∷ bytes) (e ∙ cond-true _ _ _ (eq-eqb c 0 z)) (inr (refl, subst (λ y. Formless (a ∷ b ∷ y ∷ bytes)) (sym z) (formless (a ∷ b ∷ 0 ∷ bytes) (three_zero a b bytes h h')))))
    (λ z. said at (a ∷ b ∷ c ∷ bytes) (e ∙ cond-false _ _ _ (ne_eqb c 0 z)) (spelt at (a - 128 + 128 * (b - 128) + 16384 * c) (a ∷ b ∷ c ∷ []) bytes (at + 1 + 1 + 1) (omega arith) (of_three a b c small h small' h' (omega arith) k) (omega arith)))
    (cases_eq c 0))
    (λ k. said at (a ∷ b ∷ c ∷ bytes) (number_long at (a ∷ b ∷ c ∷ bytes) refl h refl h' refl k) (inr (refl, formless (a ∷ b ∷ c ∷ bytes) (four a b c bytes h h' k))))
    (cases_lt c 128)

pub numbers_are_read : NumbersAreRead
unfolding byte_at
numbers_are_read at [] small = said at [] (number_cut at [] refl) (inl (ap InputEnds (let e : at ≡ at + 0 = omega arith in e), cut 0 [] (0 ∷ []) (omega arith) (omega arith) (one 0 (omega arith))))
numbers_are_read at (a ∷ []) small =
    ⊎_elim (says_one at a [])
    (λ h. said at (a ∷ []) (number_cut_two at (a ∷ []) refl h refl) (inl (refl, cut (a - 128 + 128 * 1) (a ∷ []) (1 ∷ []) (omega (arith, small.0)) (omega arith) (of_two a 1 small.0 h (omega arith) (omega arith)))))
    (cases_lt a 128)
numbers_are_read at (a ∷ b ∷ []) small =
    ⊎_elim (says_one at a (b ∷ []))
    (λ h. ⊎_elim (says_two at a b [] small.0 h)
    (λ k. said at (a ∷ b ∷ []) (number_cut_three at (a ∷ b ∷ []) refl h refl k refl)
    (inl (ap InputEnds (let e : at + 1 + 1 ≡ at + 2 = omega arith in e), cut (a - 128 + 128 * (b - 128) + 16384 * 1) (a ∷ b ∷ []) (1 ∷ []) (omega (arith, small.0, small.1.0)) (omega arith) (of_three a b 1 small.0 h small.1.0 k (omega arith) (omega arith)))))
    (cases_lt b 128))
    (cases_lt a 128)
numbers_are_read at (a ∷ b ∷ c ∷ bytes) small =
    ⊎_elim (says_one at a (b ∷ c ∷ bytes))
    (λ h. ⊎_elim (says_two at a b (c ∷ bytes) small.0 h) (λ k. says_three at a b c bytes small.0 h small.1.0 k) (cases_lt b 128))
    (cases_lt a 128)

-- what is read was written
pub number_written : (at : ℕ) (bytes : List ℕ) (n at' : ℕ) (rest : List ℕ) → Bytes bytes → number_at at bytes ≡ got n at' rest → bytes ≡ number n ++ rest
number_written at bytes n at' rest small e = (subst (Says at bytes) e (numbers_are_read at bytes small)).1

pub record FieldWritten (low high n : ℕ) (bytes rest : List ℕ) : Type 0 where
  pub whole : bytes ≡ number n ++ rest
  pub least : low ≤ n
  pub most : n ≤ high

pub field_written : (low high at : ℕ) (bytes : List ℕ) (n at' : ℕ) (rest : List ℕ) → Bytes bytes → field_at low high at bytes ≡ got n at' rest → FieldWritten low high n bytes rest
field_written low high at bytes n at' rest small e =
    let f = field_bounded low high at bytes n at' rest e in
    record { whole = number_written at bytes n at' rest small f.is; least = f.least; most = f.most }
