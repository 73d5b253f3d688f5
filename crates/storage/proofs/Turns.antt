-- What one turn of a loop over marks or counts leaves to write. Assumes nothing.
use Rattle.std.proofs.Common.{◌≡◌, ℕ, suc, ◌+◌, ◌-◌, ◌*◌, ◌^◌, ◌<◌, ◌≤◌, Bool, true, false, not, ◌&&◌, leb, List, [], ◌∷◌, ◌++◌, map, length, get_or, drop, ℤ, pos, nat_abs, sym, refl, ap, ◌∙◌, subst, arith, add-one, length-append}
use denote.Ref.{Bor}
use mathlib.Core.Bool.{beq, and_assoc, and-true}
use Rattle.std.specs.Cmp.{booleans_Decides}
use Rattle.std.specs.List.{flat_map, fold, IsChunkByPrefix}
use Rattle.std.proofs.lemmas.List.{at_drop_more}
use Rattle.std.proofs.lemmas.Bool.{and_parts, leb-true}
use Rattle.storage.specs.Contents.{Content, all_small, Sound}
use Rattle.storage.specs.Stored.{number, runs_from, runs, code, version, stored}
use Rattle.storage.proofs.Forms.{in_one, number_within, number_below}
use Rattle.storage.proofs.RoundTrip.{same_mark, run_ends, runs_behind, code_small, in_parts, version_small}

-- counts
pub next_count : (vs : List ℤ) (i : ℕ) (v : ℤ) → i < length vs → v ≡ get_or vs i (pos 0) → flat_map number (map code (drop i vs)) ≡ number (code v) ++ flat_map number (map code (drop (i + 1) vs))
next_count vs i v within is = at_drop_more (λ l. flat_map number (map code l)) vs i (pos 0) within ∙ ap (λ w. number (code w) ++ flat_map number (map code (drop (i + 1) vs))) (sym is)

-- the counts of a run of references are tested one after another
pub small_fold : (top : ℕ) (all : Bool) (items : List (Bor ℤ)) → fold (λ all v. all && leb (nat_abs v.now) top) all items ≡ (all && all_small top (map (λ v. v.now) items))
small_fold top all [] = sym (and-true all)
small_fold top all (v ∷ vs) = small_fold top (all && leb (nat_abs v.now) top) vs ∙ and_assoc all (leb (nat_abs v.now) top) (all_small top (map (λ v. v.now) vs))

-- two bytes at most for each
pub counts_short : (top : ℕ) (vs : List ℤ) → top < 2 ^ 13 → all_small top vs ≡ true → length (flat_map number (map code vs)) ≤ 2 * length vs
counts_short top [] few h = omega arith
counts_short top (v ∷ vs) few h =
    let p = and_parts _ _ h in
    let low = code_small top v (leb-true _ top p.0) in
    simp length-append (omega (arith, number_below (code v) (omega arith), counts_short top vs few p.1))

-- runs
beq_same : (x y : Bool) → beq x y ≡ true → x ≡ y
beq_same x y e = (booleans_Decides x y).0 e

beq_other : (x y : Bool) → beq x y ≡ false → y ≡ not x
beq_other true true e = cc
beq_other true false e = refl
beq_other false true e = refl
beq_other false false e = cc

-- the marks after a first mark x, which goes with those of xs and not with the next: what comes after them begins a run
chunk_run : (x : Bool) (xs ys : List Bool) (k : ℕ) → IsChunkByPrefix beq (x ∷ (xs ++ ys)) (length xs + 1) → runs_from x k (xs ++ ys) ≡ (k + length xs) ∷ runs_behind ys
unfolding runs_from
chunk_run x [] [] k h = ap (λ n. n ∷ []) (let e : k ≡ k + 0 = omega arith in e)
chunk_run x [] (y ∷ ys) k h = run_ends x k (y ∷ ys) (beq_other x y (h.1 (omega arith) x)) ∙ ap (λ n. n ∷ runs_from y 1 ys) (let e : k ≡ k + 0 = omega arith in e)
chunk_run x (y ∷ xs) ys k h =
    let here : suc (length xs) + 1 - 1 ≡ suc (length xs + 1 - 1) = omega arith in
    let next : suc (length xs) + 1 ≡ suc (length xs + 1) = omega arith in
    let later : IsChunkByPrefix beq (y ∷ (xs ++ ys)) (length xs + 1) = (λ i d l. simp add-one (simp add-one at (h.0 (i + 1) d (omega arith))), λ l d. rw (here, next) at (h.1 (omega arith) d)) in
    ap (λ z. runs_from x k (z ∷ (xs ++ ys))) (sym (beq_same x y (h.0 0 x (omega arith)))) ∙ same_mark x k (xs ++ ys)
    ∙ ap (λ z. runs_from z (k + 1) (xs ++ ys)) (beq_same x y (h.0 0 x (omega arith)))
    ∙ chunk_run y xs ys (k + 1) later ∙ ap (λ n. n ∷ runs_behind ys) (let e : k + 1 + length xs ≡ k + suc (length xs) = omega arith in e)

-- the first part of `whole` in which all marks are equal, and the next is not
pub chunk_behind : (whole xs ys : List Bool) → whole ≡ xs ++ ys → 0 < length xs → IsChunkByPrefix beq whole (length xs) → runs_behind whole ≡ length xs ∷ runs_behind ys
chunk_behind whole [] ys e some h = absurd (omega arith)
chunk_behind whole (x ∷ xs) ys e some h =
    ap runs_behind e ∙ chunk_run x xs ys 1 (subst (λ l. IsChunkByPrefix beq l (length xs + 1)) e (subst (λ n. IsChunkByPrefix beq whole n) (sym (add-one (length xs))) h)) ∙ ap (λ n. n ∷ runs_behind ys) (let e : 1 + length xs ≡ suc (length xs) = omega arith in e)

-- an active first mark comes after a run of 0
pub runs_active : (ms : List Bool) → 0 < length ms → get_or ms 0 false ≡ true → runs ms ≡ 0 ∷ runs_behind ms
unfolding runs_from
runs_active [] some e = absurd (omega arith)
runs_active (true ∷ ms) some e = refl
runs_active (false ∷ ms) some e = cc

pub runs_frozen : (ms : List Bool) → 0 < length ms → get_or ms 0 false ≡ false → runs ms ≡ runs_behind ms
unfolding runs_from
runs_frozen [] some e = absurd (omega arith)
runs_frozen (true ∷ ms) some e = cc
runs_frozen (false ∷ ms) some e = refl

-- a run takes no more bytes than it has marks, an empty one takes one
later_short : (m : Bool) (n : ℕ) (ms : List Bool) → 1 ≤ n → length (flat_map number (runs_from m n ms)) ≤ n + length ms
unfolding runs_from
later_short m n [] some = simp length-append (omega (arith, number_within n some))
later_short true n (true ∷ ms) some = omega (arith, later_short true (n + 1) ms (omega arith))
later_short true n (false ∷ ms) some = simp length-append (omega (arith, number_within n some, later_short false 1 ms (omega arith)))
later_short false n (true ∷ ms) some = simp length-append (omega (arith, number_within n some, later_short true 1 ms (omega arith)))
later_short false n (false ∷ ms) some = omega (arith, later_short false (n + 1) ms (omega arith))

pub runs_short : (ms : List Bool) → length (flat_map number (runs ms)) ≤ 1 + length ms
unfolding runs_from
runs_short [] = simp length-append (omega (arith, ap length (in_one 0 (omega arith))))
runs_short (true ∷ ms) = simp length-append (omega (arith, ap length (in_one 0 (omega arith)), later_short true 1 ms (omega arith)))
runs_short (false ∷ ms) = omega (arith, later_short false 1 ms (omega arith))

-- the longest form
pub form_short : (top : ℕ) (c : Content) → top < 2 ^ 13 → Sound top c → length (stored top c) ≤ 12293
form_short top c few s =
    rw (in_parts top c) (simp length-append (omega (
      arith,
      ap length (in_one (version top) (omega (arith, version_small top))),
      number_below (length c.marks) (omega (arith, s.short)),
      ap length (in_one c.exponent (omega (arith, s.scaled))),
      runs_short c.marks,
      counts_short top c.counts few s.small,
      s.short,
      s.paired,
    )))
