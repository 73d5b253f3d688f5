-- What loading gives, by the first field that is refused. Assumes nothing.
use Rattle.std.proofs.Common.{◌≡◌, ℕ, ◌<◌, Bool, List, [], ◌∷◌, get_or, ℤ, IsErrAnd, Some, Ok, Err, Result, sym, refl, ap, ◌∙◌, subst, w8, Fits}
use Rattle.std.proofs.ByRecursion.{All-from_get_or}
use Rattle.std.proofs.lemmas.Result.{err_from_is_err_and}
use Rattle.polar.specs.declared.refusal.Refusal.{Refusal}
use Rattle.storage.specs.declared.cursor.Cursor.{Cursor}
use Rattle.storage.specs.declared.loading.Header.{Header}
use Rattle.storage.specs.Contents.{Content, content_of}
use Rattle.storage.specs.Stored.{version}
use Rattle.storage.specs.Reading.{Reader, got, refused, ended, field_at, marks_at, counts_at, content_at, outcome}
use Rattle.storage.specs.Cursors.{rest, read_by}
use Rattle.storage.specs.Laws.{Bytes}
use Rattle.storage.specs.Calls.{Fronts, refusal_in, Loaded, RowsLoaded}
use Rattle.storage.proofs.RoundTrip.{accepts_only_what_is_stored}
use Rattle.storage.proofs.Steps.{then_got, then_refused}

module _ (top : ℕ) (bytes : List ℕ) where
  pub no_version : {r : Refusal} → field_at (version top) (version top) 0 bytes ≡ refused r → outcome top bytes ≡ Err r
  unfolding outcome content_at
  no_version e = ap ended (then_refused _ e)

  module _ {first at₁ : ℕ} {bytes₁ : List ℕ} (e₁ : field_at (version top) (version top) 0 bytes ≡ got first at₁ bytes₁) where
    pub no_length : {r : Refusal} → field_at 1 4096 at₁ bytes₁ ≡ refused r → outcome top bytes ≡ Err r
    unfolding outcome content_at
    no_length e = ap ended (then_got _ e₁ ∙ then_refused _ e)

    module _ {n at₂ : ℕ} {bytes₂ : List ℕ} (e₂ : field_at 1 4096 at₁ bytes₁ ≡ got n at₂ bytes₂) where
      pub no_exponent : {r : Refusal} → field_at 0 6 at₂ bytes₂ ≡ refused r → outcome top bytes ≡ Err r
      unfolding outcome content_at
      no_exponent e = ap ended (then_got _ e₁ ∙ then_got _ e₂ ∙ then_refused _ e)

      module _ {k at₃ : ℕ} {bytes₃ : List ℕ} (e₃ : field_at 0 6 at₂ bytes₂ ≡ got k at₃ bytes₃) where
        pub no_marks : {r : Refusal} → marks_at n at₃ bytes₃ ≡ refused r → outcome top bytes ≡ Err r
        unfolding outcome content_at
        no_marks e = ap ended (then_got _ e₁ ∙ then_got _ e₂ ∙ then_got _ e₃ ∙ then_refused _ e)

        module _ {ms : List Bool} {at₄ : ℕ} {bytes₄ : List ℕ} (e₄ : marks_at n at₃ bytes₃ ≡ got ms at₄ bytes₄) where
          pub no_counts : {r : Refusal} → counts_at top n at₄ bytes₄ ≡ refused r → outcome top bytes ≡ Err r
          unfolding outcome content_at
          no_counts e = ap ended (then_got _ e₁ ∙ then_got _ e₂ ∙ then_got _ e₃ ∙ then_got _ e₄ ∙ then_refused _ e)

          module _ {vs : List ℤ} {at₅ : ℕ} {bytes₅ : List ℕ} (e₅ : counts_at top n at₄ bytes₄ ≡ got vs at₅ bytes₅) where
            pub content_is : content_at top 0 bytes ≡ got (content_of ms vs k) at₅ bytes₅
            unfolding content_at
            content_is = then_got _ e₁ ∙ then_got _ e₂ ∙ then_got _ e₃ ∙ then_got _ e₄ ∙ then_got _ e₅

            pub outcome_is : outcome top bytes ≡ ended (got (content_of ms vs k) at₅ bytes₅)
            unfolding outcome
            outcome_is = ap ended content_is

-- a cursor that stands at the start
pub at_start : {A : Type 0} (reader : Reader A) (c : Cursor) (bytes : List ℕ) → c.at ≡ 0 → rest c ≡ bytes → reader 0 bytes ≡ read_by reader c
at_start reader c bytes p q = λ i. reader (sym p i) (sym q i)

-- at the end of the input nothing counts but whether bytes remain
pub ends_alike : {A B : Type 0} (x : A) (y : B) (at : ℕ) (bytes : List ℕ) {r : Refusal} → Err r ≡ ended (got x at bytes) → ended (got y at bytes) ≡ Err r
ends_alike x y at [] e = cc
ends_alike x y at (b ∷ bytes) e = cc

pub ends_well : {A B : Type 0} (x x' : A) (y : B) (at : ℕ) (bytes : List ℕ) → Ok x' ≡ ended (got x at bytes) → ended (got y at bytes) ≡ Ok y
ends_well x x' y at [] e = refl
ends_well x x' y at (b ∷ bytes) e = cc

-- the exit of a `?`
pub fronts_exit : (top : ℕ) (bytes : List ℕ) (ms : List Bool) (vs : List ℤ) (r : Result Header Refusal) {x : Refusal} → IsErrAnd r (λ y. y ≡ x) → outcome top bytes ≡ Err x → Fronts top bytes r ms vs
fronts_exit top bytes ms vs r by e =
    let p = err_from_is_err_and r by in
    subst (λ r. Fronts top bytes r ms vs) (sym p.1) (e ∙ ap Err (sym p.2))

pub loaded_exit : (top : ℕ) (bytes : List ℕ) (ms : List Bool) (vs : List ℤ) (r : Result Header Refusal) {x : Refusal} → IsErrAnd r (λ y. y ≡ x) → outcome top bytes ≡ Err x → RowsLoaded top bytes ms vs r ms vs
loaded_exit top bytes ms vs r by e =
    let p = err_from_is_err_and r by in
    subst (λ r. RowsLoaded top bytes ms vs r ms vs) (sym p.1) (ap refusal_in e ∙ ap Some (sym p.2), (refl, refl))

pub refused_exit : {given : Result Content Refusal} (r : Result Content Refusal) {x : Refusal} → IsErrAnd r (λ y. y ≡ x) → given ≡ Err x → r ≡ given
refused_exit r by e = let p = err_from_is_err_and r by in p.1 ∙ ap Err p.2 ∙ sym e

-- what a load of these bytes owes, where its answer is what reading gives
pub loaded_is : (top : ℕ) (bytes : List ℕ) (r : Result Content Refusal) → Bytes bytes → r ≡ outcome top bytes → Loaded top bytes r
loaded_is top bytes (Ok c) small e =
    let law = accepts_only_what_is_stored top bytes c small (sym e) in
    (ap refusal_in (sym e), record { given = sym e; same = law.1; sound = law.0 })
loaded_is top bytes (Err x) small e = (ap refusal_in (sym e), tt)

-- what a slice of bytes holds
pub bytes_of : (bytes : List ℕ) → ((i : ℕ) → Fits w8 (get_or bytes i 0)) → Bytes bytes
bytes_of bytes h = All-from_get_or (λ b. b < 256) bytes 0 (λ i _. (h i).fits)

pub content_alike : {ms ms' : List Bool} {vs vs' : List ℤ} (k : ℕ) → ms ≡ ms' → vs ≡ vs' → content_of ms vs k ≡ content_of ms' vs' k
content_alike k m v = λ i. content_of (m i) (v i) k
