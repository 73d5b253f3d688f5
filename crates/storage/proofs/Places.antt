-- Each refusal names its place: a reader that starts within the input goes forward in it. Assumes nothing.
use Rattle.std.proofs.Common.{◌≡◌, ℕ, zero, suc, ◌+◌, ◌-◌, ◌*◌, ◌≤◌, Bool, true, false, cond, not, ◌&&◌, eqb, ltb, leb, List, [], ◌∷◌, ◌++◌, length, replicate, Err, refl, subst, arith}
use Rattle.polar.specs.declared.refusal.Refusal.{Refusal}
use Rattle.polar.specs.declared.refusal.Refusal.TheVariants.{InputEnds, NumberForm, BytesRemain}
use Rattle.storage.specs.Stored.{version}
use Rattle.storage.specs.Reading.{Read, Reader, got, refused, then, mapped, ended, byte_at, number_at, field_at, later_runs_at, marks_at, counts_at, coded_count, content_at, outcome}
use Rattle.storage.specs.Laws.{Placed, ends, form, rule, remain, RefusalsArePlaced}
use Rattle.storage.proofs.Forms.{field_bounded}

-- in n bytes of input the reading came to `low` or further, or its refusal is placed
abbrev Moves : {A : Type 0} → ℕ → ℕ → Read A → Type 0
Moves low n (got x at rest) = (low ≤ at) × (at + length rest ≡ n)
Moves low n (refused r) = Placed n r

moves_then : {A B : Type 0} (low low' n : ℕ) (r : Read A) (next : A → Reader B) → Moves low n r → ((x : A) (at : ℕ) (rest : List ℕ) → low ≤ at → at + length rest ≡ n → Moves low' n (next x at rest)) → Moves low' n (then r next)
moves_then low low' n (got x at rest) next m k = k x at rest m.0 m.1
moves_then low low' n (refused r) next m k = m

-- the same where the next reader asks what was read
moves_then_by : {A B : Type 0} (low low' n : ℕ) (r : Read A) (next : A → Reader B) → Moves low n r → ((x : A) (at : ℕ) (rest : List ℕ) → r ≡ got x at rest → at + length rest ≡ n → Moves low' n (next x at rest)) → Moves low' n (then r next)
moves_then_by low low' n (got x at rest) next m k = k x at rest refl m.1
moves_then_by low low' n (refused r) next m k = m

moves_mapped : {A B : Type 0} (low n : ℕ) (f : A → B) (r : Read A) → Moves low n r → Moves low n (mapped f r)
moves_mapped low n f (got x at rest) m = m
moves_mapped low n f (refused r) m = m

moves_cond : {A : Type 0} (low n : ℕ) (b : Bool) (r s : Read A) → Moves low n r → Moves low n s → Moves low n (cond b r s)
moves_cond low n true r s p q = p
moves_cond low n false r s p q = q

byte_moves : (n at : ℕ) (bytes : List ℕ) → at + length bytes ≡ n → Moves (at + 1) n (byte_at at bytes)
unfolding byte_at
byte_moves n at [] e = subst (λ m. Placed n (InputEnds m)) (let h : n ≡ at = omega arith in h) ends
byte_moves n at (b ∷ bytes) e = (omega arith, omega arith)

number_moves : (n first : ℕ) (bytes : List ℕ) → first + length bytes ≡ n → Moves (first + 1) n (number_at first bytes)
unfolding number_at
number_moves n first bytes e =
    moves_then (first + 1) (first + 1) n (byte_at first bytes) _ (byte_moves n first bytes e) (λ a at₁ bytes₁ l₁ e₁.
    let bad : Placed n (NumberForm first) = form first (omega arith) in
    moves_cond _ n (ltb a 128) _ _ (l₁, e₁) (
    moves_then (at₁ + 1) (first + 1) n (byte_at at₁ bytes₁) _ (byte_moves n at₁ bytes₁ e₁) (λ b at₂ bytes₂ l₂ e₂.
    moves_cond _ n (ltb b 128) _ _ (moves_cond _ n (eqb b 0) _ _ bad (omega arith, e₂)) (
    moves_then (at₂ + 1) (first + 1) n (byte_at at₂ bytes₂) _ (byte_moves n at₂ bytes₂ e₂) (λ c at₃ bytes₃ l₃ e₃.
    moves_cond _ n (ltb c 128) _ _ (moves_cond _ n (eqb c 0) _ _ bad (omega arith, e₃)) bad)))))

field_moves : (low high n first : ℕ) (bytes : List ℕ) → first + length bytes ≡ n → Moves (first + 1) n (field_at low high first bytes)
unfolding field_at
field_moves low high n first bytes e =
    moves_then (first + 1) (first + 1) n (number_at first bytes) _ (number_moves n first bytes e) (λ v at rest l e'.
    moves_cond _ n (leb low v && leb v high) _ _ (l, e') (rule first (omega arith)))

runs_move : (most : ℕ) (mark : Bool) (left n at : ℕ) (bytes : List ℕ) → left ≤ most → at + length bytes ≡ n → Moves 0 n (later_runs_at most mark left at bytes)
unfolding later_runs_at
runs_move zero mark zero n at bytes h e = (omega arith, e)
runs_move (suc most) mark zero n at bytes h e = (omega arith, e)
runs_move zero mark (suc left) n at bytes h e = absurd (omega arith)
runs_move (suc most) mark (suc left) n at bytes h e =
    moves_then_by (at + 1) 0 n (field_at 1 (suc left) at bytes) _ (field_moves 1 (suc left) n at bytes e) (λ run at₁ bytes₁ g e₁.
    let some = (field_bounded 1 (suc left) at bytes run at₁ bytes₁ g).least in
    moves_mapped 0 n (λ ms. replicate run mark ++ ms) (later_runs_at most (not mark) (suc left - run) at₁ bytes₁)
    (runs_move most (not mark) (suc left - run) n at₁ bytes₁ (omega arith) e₁))

counts_move : (top more n at : ℕ) (bytes : List ℕ) → at + length bytes ≡ n → Moves 0 n (counts_at top more at bytes)
unfolding counts_at
counts_move top zero n at bytes e = (omega arith, e)
counts_move top (suc more) n at bytes e =
    moves_then (at + 1) 0 n (field_at 0 (2 * top) at bytes) _ (field_moves 0 (2 * top) n at bytes e) (λ c at₁ bytes₁ l₁ e₁.
    moves_mapped 0 n (λ vs. coded_count c ∷ vs) (counts_at top more at₁ bytes₁) (counts_move top more n at₁ bytes₁ e₁))

marks_move : (len n at : ℕ) (bytes : List ℕ) → at + length bytes ≡ n → Moves 0 n (marks_at len at bytes)
unfolding marks_at
marks_move len n at bytes e =
    moves_then (at + 1) 0 n (field_at 0 (len - 1) at bytes) _ (field_moves 0 (len - 1) n at bytes e) (λ run at₁ bytes₁ l₁ e₁.
    moves_mapped 0 n (λ ms. replicate run false ++ ms) (later_runs_at (len - run) true (len - run) at₁ bytes₁) (runs_move (len - run) true (len - run) n at₁ bytes₁ (omega arith) e₁))

content_moves : (top n at : ℕ) (bytes : List ℕ) → at + length bytes ≡ n → Moves 0 n (content_at top at bytes)
unfolding content_at
content_moves top n at bytes e =
    moves_then (at + 1) 0 n (field_at (version top) (version top) at bytes) _ (field_moves (version top) (version top) n at bytes e) (λ _ at₁ bytes₁ l₁ e₁.
    moves_then (at₁ + 1) 0 n (field_at 1 4096 at₁ bytes₁) _ (field_moves 1 4096 n at₁ bytes₁ e₁) (λ len at₂ bytes₂ l₂ e₂.
    moves_then (at₂ + 1) 0 n (field_at 0 6 at₂ bytes₂) _ (field_moves 0 6 n at₂ bytes₂ e₂) (λ _ at₃ bytes₃ l₃ e₃.
    moves_then 0 0 n (marks_at len at₃ bytes₃) _ (marks_move len n at₃ bytes₃ e₃) (λ _ at₄ bytes₄ l₄ e₄.
    moves_then 0 0 n (counts_at top len at₄ bytes₄) _ (counts_move top len n at₄ bytes₄ e₄) (λ _ at₅ bytes₅ l₅ e₅. (l₅, e₅))))))

ended_placed : {A : Type 0} (low n : ℕ) (read : Read A) (r : Refusal) → Moves low n read → ended read ≡ Err r → Placed n r
ended_placed low n (got x at []) r m e = cc
ended_placed low n (got x at (b ∷ rest)) r m e =
    let s : BytesRemain at ≡ r = cc in
    subst (λ r. Placed n r) s (remain at (omega arith))
ended_placed low n (refused r') r m e = let s : r' ≡ r = cc in subst (λ r. Placed n r) s m

pub refusals_are_placed : (top : ℕ) → RefusalsArePlaced top
unfolding outcome
refusals_are_placed top bytes r e = ended_placed 0 (length bytes) (content_at top 0 bytes) r (content_moves top (length bytes) 0 bytes (let z : 0 + length bytes ≡ length bytes = omega arith in z)) e
