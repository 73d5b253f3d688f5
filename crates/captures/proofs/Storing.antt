-- What saving and loading promise, from the laws of the stored form. Assumes nothing.
use Rattle.std.proofs.Common.{◌≡◌, ℕ, zero, suc, ◌-◌, true, ltb, leb, List, [], ◌∷◌, ◌++◌, length, take, ℤ, nat_abs, Some, None, Ok, Err, Result, sym, refl, ap, ◌∙◌, arith, take_at}
use native.Mathlib.Nat.{sub-zero}
use Rattle.std.proofs.lemmas.Bool.{and_parts, leb-true, le-leb, lt-ltb, le-ltb, eq-eqb, ne_eqb}
use Rattle.polar.specs.declared.refusal.Refusal.{Refusal}
use Rattle.polar.specs.Words.{trues}
use Rattle.polar.specs.Refusals.{refused_if}
use Rattle.polar.specs.declared.refusal.Refusal.TheVariants.{Output}
use Rattle.storage.specs.Contents.{Content, all_small, Sound}
use Rattle.storage.specs.Reading.{outcome}
use Rattle.storage.specs.Calls.{store_due, Stores, load_due}
use Rattle.captures.specs.Tops.{WithinTop}
use Rattle.captures.specs.Captures.{Captured, capture_of, content_in}
use Rattle.captures.specs.Calls.{Answer, Saved, Loaded, saved_bytes}

-- counts within the top, as a test and as a fact
pub small_from_within : (top : ℕ) (counts : List ℤ) → WithinTop top counts → all_small top counts ≡ true
small_from_within top [] h = refl
small_from_within top (v ∷ counts) h =
    let first : leb (nat_abs v) top ≡ true = le-leb (nat_abs v) top (h 0 (omega arith)) in
    let others = small_from_within top counts (λ i p. h (suc i) (omega arith)) in
    rw (first, others)

pub within_from_small : (top : ℕ) (counts : List ℤ) → all_small top counts ≡ true → WithinTop top counts
within_from_small top [] h i p = absurd (omega arith)
within_from_small top (v ∷ counts) h zero p = leb-true (nat_abs v) top (and_parts (leb (nat_abs v) top) (all_small top counts) h).0
within_from_small top (v ∷ counts) h (suc i) p = within_from_small top counts (and_parts (leb (nat_abs v) top) (all_small top counts) h).1 i (omega arith)

-- the front of a row that was filled
pub front_is : {A : Type 0} (n : ℕ) (xs rest row : List A) → row ≡ xs ++ rest → length xs ≡ n → take (n - 0) row ≡ xs
front_is n xs rest row is size = rw (is, sub-zero) (take_at xs rest n size)

-- a sound capture is refused only for want of room
pub sound_due : (top : ℕ) (c : Captured) (room : ℕ) → Sound top (content_in c) → store_due top (content_in c) room ≡ refused_if (ltb room (length (saved_bytes top c))) Output None
sound_due top c room sound =
    let n = length c.marks_row in
    rw (
      ne_eqb n 0 (λ (none : n ≡ 0). omega (arith, sound.some)),
      le-ltb 4096 n sound.short,
      lt-ltb 0 (trues c.marks_row) sound.active,
      eq-eqb (length c.count_row) n sound.paired,
      sound.small,
      le-leb c.scale_exponent 6 sound.scaled,
    )

same_content : (a b : Captured) → content_in a ≡ content_in b → a ≡ b
same_content a b e =
    let ms : a.marks_row ≡ b.marks_row = ap (λ (c : Content). c.marks) e in
    let vs : a.count_row ≡ b.count_row = ap (λ (c : Content). c.counts) e in
    let k : a.scale_exponent ≡ b.scale_exponent = ap (λ (c : Content). c.exponent) e in
    ap (λ m. capture_of m a.count_row a.scale_exponent) ms ∙ ap (λ v. capture_of b.marks_row v a.scale_exponent) vs ∙ ap (capture_of b.marks_row b.count_row) k

-- loading the stored form of a capture gives that capture
pub loads_back : (top : ℕ) (c place : Captured) (bytes : List ℕ) (again : Answer) (after : Captured) → bytes ≡ saved_bytes top c → outcome top (saved_bytes top c) ≡ Ok (content_in c)
    → Loaded top place bytes again after → (again ≡ Ok tt) × (after ≡ c)
loads_back top c place bytes (Ok u) after is gives done =
    let same : ◌≡◌ {A = Result Content Refusal} (Ok (content_in after)) (Ok (content_in c)) = sym done.1 ∙ ap (outcome top) is ∙ gives in
    (refl, same_content after c cc)
loads_back top c place bytes (Err e) after is gives done =
    let due : load_due top bytes ≡ None = rw (is, gives) in
    let never : None ≡ Some e = sym due ∙ done.0 in
    absurd cc

pub saved_is : (top : ℕ) (c : Captured) (before after : List ℕ) (answer : Result ℕ Refusal) → Sound top (content_in c) → Stores top (content_in c) before answer after → Saved top c before answer after
saved_is top c before after (Ok n) sound done = (sym (sound_due top c (length before) sound) ∙ done.0, (done.1.length_is, done.1.written))
saved_is top c before after (Err e) sound done = (sym (sound_due top c (length before) sound) ∙ done.0, done.1)
