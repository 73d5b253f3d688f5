-- What each step of a reading gives, for the proofs of the cursor's methods. Assumes nothing.
use Rattle.std.proofs.Common.{◌≡◌, ℕ, zero, suc, ◌+◌, ◌-◌, ◌*◌, ◌<◌, ◌≤◌, Bool, true, false, cond, not, eqb, ltb, List, [], ◌∷◌, ◌++◌, length, get_or, drop, replicate, IsErrAnd, Ok, Err, Result, sym, refl, ap, ◌∙◌, subst, append_assoc, append-nil, arith}
use Rattle.std.proofs.lemmas.List.{drop_more, drop_all}
use Rattle.std.proofs.lemmas.Bool.{lt-ltb, le-ltb, le-leb, lt-leb, and_from, and_left, and_right, cond-true, cond-false}
use Rattle.std.proofs.lemmas.Result.{err_from_is_err_and}
use Rattle.storage.specs.declared.cursor.Cursor.{Cursor}
use Rattle.storage.specs.Cursors.{rest, Reads, Fills, closed_by}
use Rattle.polar.specs.declared.refusal.Refusal.{Refusal}
use Rattle.polar.specs.declared.refusal.Refusal.TheVariants.{InputEnds, NumberForm, FieldRule, BytesRemain}
use Rattle.storage.specs.Reading.{Read, Reader, got, refused, then, mapped, ended, closing, byte_at, number_at, field_at, later_runs_at, marks_at, counts_at, coded_count}

-- a reading goes on with what was read, or ends at a refusal
pub then_got : {A B : Type 0} {r : Read A} {x : A} {at : ℕ} {bytes : List ℕ} (next : A → Reader B) → r ≡ got x at bytes → then r next ≡ next x at bytes
then_got next e = ap (λ r. then r next) e

pub then_refused : {A B : Type 0} {r : Read A} {e : Refusal} (next : A → Reader B) → r ≡ refused e → then r next ≡ refused e
then_refused next e = ap (λ r. then r next) e

-- a byte of a list, or its end
pub byte_within : (bytes : List ℕ) (i : ℕ) → i < length bytes → byte_at i (drop i bytes) ≡ got (get_or bytes i 0) (i + 1) (drop (i + 1) bytes)
unfolding byte_at
byte_within bytes i h = rw (drop_more bytes i 0 h)

pub byte_past : (bytes : List ℕ) (i : ℕ) → length bytes ≤ i → byte_at i (drop i bytes) ≡ refused (InputEnds i)
unfolding byte_at
byte_past bytes i h = rw (drop_all i bytes h)

-- the ways to read a number, by its bytes
module _ (first : ℕ) (bytes : List ℕ) where
  pub number_cut : {e : Refusal} → byte_at first bytes ≡ refused e → number_at first bytes ≡ refused e
  unfolding number_at
  number_cut r = then_refused _ r

  module _ {a at₁ : ℕ} {bytes₁ : List ℕ} (r₁ : byte_at first bytes ≡ got a at₁ bytes₁) where
    pub number_one : a < 128 → number_at first bytes ≡ got a at₁ bytes₁
    unfolding number_at
    number_one h = then_got _ r₁ ∙ cond-true _ _ _ (lt-ltb a 128 h)

    module _ (more₁ : 128 ≤ a) where
      pub number_cut_two : {e : Refusal} → byte_at at₁ bytes₁ ≡ refused e → number_at first bytes ≡ refused e
      unfolding number_at
      number_cut_two r = then_got _ r₁ ∙ cond-false _ _ _ (le-ltb a 128 more₁) ∙ then_refused _ r

      module _ {b at₂ : ℕ} {bytes₂ : List ℕ} (r₂ : byte_at at₁ bytes₁ ≡ got b at₂ bytes₂) where
        pub number_two : b < 128 → number_at first bytes ≡ closing first b (a - 128 + 128 * b) at₂ bytes₂
        unfolding number_at
        number_two h = then_got _ r₁ ∙ cond-false _ _ _ (le-ltb a 128 more₁) ∙ then_got _ r₂ ∙ cond-true _ _ _ (lt-ltb b 128 h)

        module _ (more₂ : 128 ≤ b) where
          third : number_at first bytes ≡ then (byte_at at₂ bytes₂) λ c at bytes. cond (ltb c 128) (closing first c (a - 128 + 128 * (b - 128) + 16384 * c) at bytes) (refused (NumberForm first))
          unfolding number_at
          third = then_got _ r₁ ∙ cond-false _ _ _ (le-ltb a 128 more₁) ∙ then_got _ r₂ ∙ cond-false _ _ _ (le-ltb b 128 more₂)

          pub number_cut_three : {e : Refusal} → byte_at at₂ bytes₂ ≡ refused e → number_at first bytes ≡ refused e
          number_cut_three r = third ∙ then_refused _ r

          module _ {c at₃ : ℕ} {bytes₃ : List ℕ} (r₃ : byte_at at₂ bytes₂ ≡ got c at₃ bytes₃) where
            pub number_three : c < 128 → number_at first bytes ≡ closing first c (a - 128 + 128 * (b - 128) + 16384 * c) at₃ bytes₃
            number_three h = third ∙ then_got _ r₃ ∙ cond-true _ _ _ (lt-ltb c 128 h)

            pub number_long : 128 ≤ c → number_at first bytes ≡ refused (NumberForm first)
            number_long h = third ∙ then_got _ r₃ ∙ cond-false _ _ _ (le-ltb c 128 h)

-- the ways to read a field
module _ (low high first : ℕ) (bytes : List ℕ) where
  pub field_unread : {e : Refusal} → number_at first bytes ≡ refused e → field_at low high first bytes ≡ refused e
  unfolding field_at
  field_unread r = then_refused _ r

  module _ {v at : ℕ} {rest : List ℕ} (r : number_at first bytes ≡ got v at rest) where
    pub field_kept : low ≤ v → v ≤ high → field_at low high first bytes ≡ got v at rest
    unfolding field_at
    field_kept l h = then_got _ r ∙ cond-true _ _ _ (and_from _ _ (le-leb low v l) (le-leb v high h))

    pub field_below : v < low → field_at low high first bytes ≡ refused (FieldRule first)
    unfolding field_at
    field_below h = then_got _ r ∙ cond-false _ _ _ (and_left _ _ (lt-leb low v h))

    pub field_above : high < v → field_at low high first bytes ≡ refused (FieldRule first)
    unfolding field_at
    field_above h = then_got _ r ∙ cond-false _ _ _ (and_right _ _ (lt-leb v high h))

-- what the code answers is what was read: at the exit of a `?`, and where a number is closed
pub exits : {A : Type 0} {read : Read A} (r : Result A Refusal) (d : Cursor) {x : Refusal} → IsErrAnd r (λ y. y ≡ x) → read ≡ refused x → Reads read r d
exits {read = read} r d by e =
    let p = err_from_is_err_and r by in
    subst (λ r. Reads read r d) (sym p.1) (e ∙ ap refused (sym p.2))

closes_by : (t : Bool) {read : Read ℕ} (r : Result ℕ Refusal) (d : Cursor) (first value : ℕ) → r ≡ cond t (Err (NumberForm first)) (Ok value) → read ≡ cond t (refused (NumberForm first)) (got value d.at (rest d)) → Reads read r d
closes_by true {read} r d first value is e = subst (λ r. Reads read r d) (sym is) e
closes_by false {read} r d first value is e = subst (λ r. Reads read r d) (sym is) e

pub closes : {read : Read ℕ} (r : Result ℕ Refusal) (d : Cursor) (first b value : ℕ) → r ≡ closed_by first b value → read ≡ closing first b value d.at (rest d) → Reads read r d
closes r d first b value = closes_by (eqb b 0) r d first value

-- a list that is read in parts: xs was read, and `left` reads what is left of it
abbrev pub Pending : {A : Type 0} → List A → Read (List A) → Read (List A) → Type 0
Pending xs left whole = mapped (λ t. xs ++ t) left ≡ whole

mapped_more : {A : Type 0} (xs ys : List A) (r : Read (List A)) → mapped (λ t. xs ++ t) (mapped (λ t. ys ++ t) r) ≡ mapped (λ t. (xs ++ ys) ++ t) r
mapped_more xs ys (got t at bytes) = ap (λ l. got l at bytes) (sym (append_assoc xs ys t))
mapped_more xs ys (refused r) = refl

-- one part more: `left` gives ys and then what `next` reads
pub pending_more : {A : Type 0} (xs ys zs : List A) (left next whole : Read (List A)) → zs ≡ xs ++ ys → Pending xs left whole → left ≡ mapped (λ t. ys ++ t) next → Pending zs next whole
pending_more xs ys zs left next whole z p e = ap (λ l. mapped (λ t. l ++ t) next) z ∙ sym (mapped_more xs ys next) ∙ ap (mapped (λ t. xs ++ t)) (sym e) ∙ p

pub pending_refused : {A : Type 0} (xs : List A) (left whole : Read (List A)) (r : Refusal) → Pending xs left whole → left ≡ refused r → whole ≡ refused r
pending_refused xs left whole r p e = sym p ∙ ap (mapped (λ t. xs ++ t)) e

-- nothing is left: xs is the whole list zs
pub pending_all : {A : Type 0} (xs zs : List A) (left whole : Read (List A)) (at : ℕ) (bytes : List ℕ) → xs ≡ zs → Pending xs left whole → left ≡ got [] at bytes → whole ≡ got zs at bytes
pending_all xs zs left whole at bytes z p e = sym p ∙ ap (mapped (λ t. xs ++ t)) e ∙ ap (λ l. got l at bytes) (append-nil xs ∙ z)

-- one count more, of those from the i-th to the n-th
module _ (top n i at : ℕ) (bytes : List ℕ) (within : i < n) where
  one_less : n - i ≡ suc (n - (i + 1))
  one_less = omega arith

  pub counts_more : {c at' : ℕ} {bytes' : List ℕ} → field_at 0 (2 * top) at bytes ≡ got c at' bytes' → counts_at top (n - i) at bytes ≡ mapped (λ t. (coded_count c ∷ []) ++ t) (counts_at top (n - (i + 1)) at' bytes')
  unfolding counts_at
  counts_more e = ap (λ m. counts_at top m at bytes) one_less ∙ then_got _ e

  pub counts_refused : {r : Refusal} → field_at 0 (2 * top) at bytes ≡ refused r → counts_at top (n - i) at bytes ≡ refused r
  unfolding counts_at
  counts_refused e = ap (λ m. counts_at top m at bytes) one_less ∙ then_refused _ e

pub counts_all : (top n i at : ℕ) (bytes : List ℕ) → n ≤ i → counts_at top (n - i) at bytes ≡ got [] at bytes
unfolding counts_at
counts_all top n i at bytes h = ap (λ m. counts_at top m at bytes) (let e : n - i ≡ 0 = omega arith in e)

-- one run more
module _ (mark : Bool) where
  pub runs_more : (most left at : ℕ) (bytes : List ℕ) {run at' : ℕ} {bytes' : List ℕ} → 0 < left → left ≤ most → field_at 1 left at bytes ≡ got run at' bytes' → later_runs_at most mark left at bytes ≡ mapped (λ t. replicate run mark ++ t) (later_runs_at (most - 1) (not mark) (left - run) at' bytes')
  unfolding later_runs_at
  runs_more zero zero at bytes some enough e = absurd (omega arith)
  runs_more zero (suc left) at bytes some enough e = absurd (omega arith)
  runs_more (suc most) zero at bytes some enough e = absurd (omega arith)
  runs_more (suc most) (suc left) at bytes {run} {at'} {bytes'} some enough e =
      let p : most ≡ suc most - 1 = omega arith in
      then_got _ e ∙ ap (λ m. mapped (λ t. replicate run mark ++ t) (later_runs_at m (not mark) (suc left - run) at' bytes')) p

  pub runs_refused : (most left at : ℕ) (bytes : List ℕ) {r : Refusal} → 0 < left → left ≤ most → field_at 1 left at bytes ≡ refused r → later_runs_at most mark left at bytes ≡ refused r
  unfolding later_runs_at
  runs_refused zero zero at bytes some enough e = absurd (omega arith)
  runs_refused zero (suc left) at bytes some enough e = absurd (omega arith)
  runs_refused (suc most) zero at bytes some enough e = absurd (omega arith)
  runs_refused (suc most) (suc left) at bytes some enough e = then_refused _ e

-- the same where the runs so far come to `from` of n marks
pub runs_next : (mark : Bool) (most n from at : ℕ) (bytes : List ℕ) {run at' : ℕ} {bytes' : List ℕ} → from < n → n - from ≤ most → field_at 1 (n - from) at bytes ≡ got run at' bytes' → later_runs_at most mark (n - from) at bytes ≡ mapped (λ t. replicate run mark ++ t) (later_runs_at (most - 1) (not mark) (n - (from + run)) at' bytes')
runs_next mark most n from at bytes {run} {at'} {bytes'} some enough e =
    let same : n - from - run ≡ n - (from + run) = omega arith in
    runs_more mark most (n - from) at bytes (omega arith) enough e ∙ ap (λ left. mapped (λ t. replicate run mark ++ t) (later_runs_at (most - 1) (not mark) left at' bytes')) same

pub runs_all : (most : ℕ) (mark : Bool) (left at : ℕ) (bytes : List ℕ) → left ≤ 0 → later_runs_at most mark left at bytes ≡ got [] at bytes
unfolding later_runs_at
runs_all most mark zero at bytes h = refl
runs_all most mark (suc left) at bytes h = absurd (omega arith)

-- the end of the input
pub ended_within : {A : Type 0} (x : A) (bytes : List ℕ) (i : ℕ) → i < length bytes → ended (got x i (drop i bytes)) ≡ Err (BytesRemain i)
ended_within x bytes i h = rw (drop_more bytes i 0 h)

pub ended_past : {A : Type 0} (x : A) (bytes : List ℕ) (i : ℕ) → length bytes ≤ i → ended (got x i (drop i bytes)) ≡ Ok x
ended_past x bytes i h = rw (drop_all i bytes h)

-- the exit of a `?` in code that fills a row
pub fills_exit : {A : Type 0} (items : A) {read : Read A} (r : Result (Unit {0}) Refusal) (d : Cursor) {x : Refusal} → IsErrAnd r (λ y. y ≡ x) → read ≡ refused x → Fills read r items d
fills_exit items {read} r d by e =
    let p = err_from_is_err_and r by in
    subst (λ r. Fills read r items d) (sym p.1) (e ∙ ap refused (sym p.2))

-- the marks, by their first run
pub marks_refused : (n at : ℕ) (bytes : List ℕ) {r : Refusal} → field_at 0 (n - 1) at bytes ≡ refused r → marks_at n at bytes ≡ refused r
unfolding marks_at
marks_refused n at bytes e = then_refused _ e

pub marks_first : (n at : ℕ) (bytes : List ℕ) {run at' : ℕ} {bytes' : List ℕ} → field_at 0 (n - 1) at bytes ≡ got run at' bytes' → marks_at n at bytes ≡ mapped (λ ms. replicate run false ++ ms) (later_runs_at (n - run) true (n - run) at' bytes')
unfolding marks_at
marks_first n at bytes e = then_got _ e

-- the same where `left` marks stand behind the first run
pub marks_follow : (n left at : ℕ) (bytes : List ℕ) (xs : List Bool) {run at' : ℕ} {bytes' : List ℕ} → field_at 0 (n - 1) at bytes ≡ got run at' bytes' → xs ≡ replicate run false → left ≡ n - run → mapped (λ ms. xs ++ ms) (later_runs_at left true left at' bytes') ≡ marks_at n at bytes
marks_follow n left at bytes xs {run} {at'} {bytes'} e x l = (λ i. mapped (λ ms. x i ++ ms) (later_runs_at (l i) true (l i) at' bytes')) ∙ sym (marks_first n at bytes e)

-- code that fills a row fills what stands behind xs
pub fills_behind : {A : Type 0} (xs items : List A) (read : Read (List A)) {read' : Read (List A)} (r : Result (Unit {0}) Refusal) (d : Cursor) → mapped (λ t. xs ++ t) read ≡ read' → Fills read r items d → Fills read' r (xs ++ items) d
fills_behind xs items read (Ok x) d e f = sym e ∙ ap (mapped (λ t. xs ++ t)) f
fills_behind xs items read (Err x) d e f = sym e ∙ ap (mapped (λ t. xs ++ t)) f
