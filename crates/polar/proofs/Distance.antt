-- What the smallest weight of an active leaf says of codewords: no two lie closer, and some lie as close. Assumes nothing.
use Rattle.std.proofs.Common.{◌≡◌, ℕ, zero, suc, ◌+◌, ◌-◌, ◌*◌, ◌^◌, ◌<◌, ◌≤◌, Bool, true, false, List, [], ◌∷◌, ◌++◌, map, length, get_or, take, drop, set, sym, refl, ap, ◌∙◌, subst, ⊎_elim, arith, length-set, take-append-drop}
use lib.ListN.{length-replicate}
use lib.Seq.{take-set-lt}
use Rattle.std.proofs.lemmas.List.{get_or_append_left, get_or-append_right, get_or-map, take-replicate, drop-replicate, take-set-le, drop-set-lt, drop-set-add}
use Rattle.std.proofs.lemmas.Bool.{cases_lt}
use Rattle.std.proofs.lemmas.Bool.Decides.{nat_tests}
use Rattle.polar.specs.Shape.{Shape, leaf, node, leaves, LeftHeavy, turns}
use Rattle.polar.specs.Words.{xor, plus, trues}
use Rattle.polar.specs.Labels.{label, unlabel}
use Rattle.polar.specs.Marks.{Clear, Codeword, single, lesser, weight}
use Rattle.polar.proofs.Shapes.{length_turns}
use Rattle.polar.proofs.Merges.{length_merge}
use Rattle.polar.proofs.Sums.{zeros, plus_zeros, trues_append, trues_bound, trues_zeros, zeros_from_trues, trues_plus_bound, trues_zeros_plus, same_from_plus}
use Rattle.polar.proofs.Label.{length_left, length_right, length_label, length_unlabel, label_zeros, label_unlabel, unlabel_plus}
use Rattle.polar.proofs.Active.{clear_take, clear_drop, clear_plus}

pub lesser_left : (v w : ℕ) → 0 < v → (0 < lesser v w) × (lesser v w ≤ v)
lesser_left v w h = (grind (arith, nat_tests), grind (arith, nat_tests))

pub lesser_right : (v w : ℕ) → 0 < w → (0 < lesser v w) × (lesser v w ≤ w)
lesser_right v w h = (grind (arith, nat_tests), grind (arith, nat_tests))

pub trues_parts : (k : ℕ) (bs : List Bool) → trues bs ≡ trues (take k bs) + trues (drop k bs)
trues_parts k bs = ap trues (sym (take-append-drop k bs)) ∙ trues_append (take k bs) (drop k bs)

-- A label that is not all 0, with 0 at each frozen leaf, has at least `weight` ones.
pub heavy : (s : Shape) (ms bs : List Bool) → LeftHeavy s → length ms ≡ leaves s → length bs ≡ leaves s → Clear ms bs → 0 < trues bs
    → (0 < weight s ms) × (weight s ms ≤ trues (label s bs))
heavy leaf [] bs w lm lb p h = absurd (omega arith)
heavy leaf (true ∷ ms) bs w lm lb p h = (omega arith, h)
heavy leaf (false ∷ ms) [] w lm lb p h = absurd (omega arith)
heavy leaf (false ∷ ms) (b ∷ bs) w lm lb p h =
    let none : 0 < trues bs = rw p.0 at h in
    absurd (omega (arith, trues_bound bs))
heavy (node l r) ms bs w lm lb p h =
    let n = leaves l in
    let x = label l (take n bs) in
    let y = label r (drop n bs) in
    let ones : trues (plus x y ++ y) ≡ trues (plus x y) + trues y = trues_append (plus x y) y in
    ⊎_elim
    (λ none.
    let left : x ≡ zeros n =
    ap (label l) (zeros_from_trues (take n bs) (omega arith) ∙ ap zeros (length_left l r bs lb)) ∙ label_zeros l in
    let size : length y ≡ leaves r = length_label r (drop n bs) (length_right l r bs lb) in
    let twice : trues (plus x y) ≡ trues y = ap (λ z. trues (plus z y)) left ∙ trues_zeros_plus n y (omega arith) in
    let right = heavy r (drop n ms) (drop n bs) w.2 (length_right l r ms lm) (length_right l r bs lb) (clear_drop n ms bs p) (omega (arith, trues_parts n bs)) in
    let least = lesser_right (weight l (take n ms)) (2 * weight r (drop n ms)) (omega arith) in
    (least.0, omega arith))
    (λ some.
    let left = heavy l (take n ms) (take n bs) w.1 (length_left l r ms lm) (length_left l r bs lb) (clear_take n ms bs p) some in
    let least = lesser_left (weight l (take n ms)) (2 * weight r (drop n ms)) left.0 in
    (least.0, omega (arith, trues_plus_bound x y)))
    (cases_lt (trues (take n bs)) 1)

-- Two different codewords differ in at least `weight` places.
pub distance : (s : Shape) (ms c c' : List Bool) → LeftHeavy s → length ms ≡ leaves s → Codeword s ms c → Codeword s ms c' → (c ≡ c' → ⊥)
    → weight s ms ≤ trues (plus c c')
distance s ms c c' w lm p p' apart =
    let d = plus c c' in
    let b = unlabel s d in
    let ld : length d ≡ leaves s = length_merge xor c c' ∙ p.0 in
    let back : label s b ≡ d = label_unlabel s d ld in
    let lb = length_unlabel s d ld in
    let clear : Clear ms b =
    subst (Clear ms) (sym (unlabel_plus s c c' p.0 p'.0)) (clear_plus ms (unlabel s c) (unlabel s c') p.1 p'.1) in
    ⊎_elim
    (λ none.
    let flat : d ≡ zeros (leaves s) =
    sym back ∙ ap (label s) (zeros_from_trues b (omega arith) ∙ ap zeros lb) ∙ label_zeros s in
    absurd (apart (same_from_plus c c' (p.0 ∙ sym p'.0) (ap trues flat ∙ trues_zeros (leaves s)))))
    (λ some. subst (λ z. weight s ms ≤ trues z) back (heavy s ms b w lm lb clear some).1)
    (cases_lt (trues b) 1)

-- turns of a node's leaf, by the child it lies under
pub turns_left : (l r : Shape) (i : ℕ) → i < leaves l → get_or (turns (node l r)) i 0 ≡ get_or (turns l) i 0
turns_left l r i h = get_or_append_left (turns l) (map suc (turns r)) 0 i (omega (arith, length_turns l))

pub turns_right : (l r : Shape) (i : ℕ) → leaves l ≤ i → i < leaves l + leaves r → get_or (turns (node l r)) i 0 ≡ suc (get_or (turns r) (i - leaves l) 0)
turns_right l r i h k =
    get_or-append_right (turns l) (map suc (turns r)) (leaves l) i 0 (length_turns l) h
    ∙ get_or-map suc (turns r) (i - leaves l) 0 0 (omega (arith, length_turns r))

-- a turn at least halves the length, so that 2 to a leaf's turns is at most the number of leaves
pub turns_bound : (s : Shape) (i : ℕ) → LeftHeavy s → i < leaves s → 2 ^ get_or (turns s) i 0 ≤ leaves s
turns_bound leaf zero w h = omega arith
turns_bound leaf (suc i) w h = absurd (omega arith)
turns_bound (node l r) i w h =
    ⊎_elim
    (λ left. subst (λ t. 2 ^ t ≤ leaves l + leaves r) (sym (turns_left l r i left)) (omega (arith, turns_bound l i w.1 left)))
    (λ right.
    let below = turns_bound r (i - leaves l) w.2 (omega arith) in
    subst (λ t. 2 ^ t ≤ leaves l + leaves r) (sym (turns_right l r i right h)) (omega (arith, below, w.0)))
    (cases_lt i (leaves l))

-- the two parts of a single leaf's word
single_left : (n m i : ℕ) → i < n → (take n (single (n + m) i) ≡ single n i) × (drop n (single (n + m) i) ≡ zeros m)
single_left n m i h =
    let size : n + m - n ≡ m = omega arith in (
      take-set-lt n (zeros (n + m)) i true h ∙ ap (λ z. set z i true) (take-replicate n (n + m) false (omega arith)),
      drop-set-lt n (zeros (n + m)) i true h
          ∙ drop-replicate n (n + m) false ∙ ap zeros size,
    )

single_right : (n m i : ℕ) → n ≤ i → (take n (single (n + m) i) ≡ zeros n) × (drop n (single (n + m) i) ≡ single m (i - n))
single_right n m i h =
    let size : n + m - n ≡ m = omega arith in
    let place : i ≡ n + (i - n) = omega arith in (
      take-set-le n (zeros (n + m)) i true h ∙ take-replicate n (n + m) false (omega arith),
      ap (λ k. drop n (single (n + m) k)) place
          ∙ drop-set-add n (zeros (n + m)) (i - n) true ∙ ap (λ z. set z (i - n) true) (drop-replicate n (n + m) false ∙ ap zeros size),
    )

-- The label of a single leaf with t right branches on the way to it has 2 ^ t ones.
pub single_weight : (s : Shape) (i : ℕ) → LeftHeavy s → i < leaves s → trues (label s (single (leaves s) i)) ≡ 2 ^ get_or (turns s) i 0
single_weight leaf zero w h = refl
single_weight leaf (suc i) w h = absurd (omega arith)
single_weight (node l r) i w h =
    let n = leaves l in
    let m = leaves r in
    let b = single (n + m) i in
    let x = label l (take n b) in
    let y = label r (drop n b) in
    let ones : trues (plus x y ++ y) ≡ trues (plus x y) + trues y = trues_append (plus x y) y in
    ⊎_elim
    (λ left.
    let parts = single_left n m i left in
    let below : trues x ≡ 2 ^ get_or (turns l) i 0 = ap (λ z. trues (label l z)) parts.0 ∙ single_weight l i w.1 left in
    let flat : y ≡ zeros m = ap (label r) parts.1 ∙ label_zeros r in
    let kept : trues (plus x y) ≡ trues x = ap (λ z. trues (plus x z)) flat ∙ ap trues (plus_zeros x m) in
    let none : trues y ≡ 0 = ap trues flat ∙ trues_zeros m in
    let sums : trues (plus x y ++ y) ≡ trues x = omega arith in
    sums ∙ below ∙ ap (λ t. 2 ^ t) (sym (turns_left l r i left)))
    (λ right.
    let parts = single_right n m i right in
    let below : trues y ≡ 2 ^ get_or (turns r) (i - n) 0 = ap (λ z. trues (label r z)) parts.1 ∙ single_weight r (i - n) w.2 (omega arith) in
    let flat : x ≡ zeros n = ap (label l) parts.0 ∙ label_zeros l in
    let size : length (drop n b) ≡ m = ap length parts.1 ∙ length-set (zeros m) (i - n) true ∙ length-replicate m false in
    let kept : trues (plus x y) ≡ trues y = ap (λ z. trues (plus z y)) flat ∙ trues_zeros_plus n y (omega (arith, length_label r (drop n b) size)) in
    let twice : trues (plus x y ++ y) ≡ 2 ^ suc (get_or (turns r) (i - n) 0) = omega arith in
    twice ∙ ap (λ t. 2 ^ t) (sym (turns_right l r i right h)))
    (cases_lt i n)
