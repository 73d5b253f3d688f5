-- The label of a balanced tree is the one that the relation gives, and no other word is; its parity. Assumes nothing.
use Rattle.std.proofs.Common.{◌≡◌, ℕ, ◌+◌, ◌-◌, ◌/◌, ◌%◌, ◌<◌, ◌≤◌, Bool, true, false, ◌⊎◌, List, [], ◌∷◌, ◌++◌, length, get_or, take, drop, sym, refl, ap, ◌∙◌, subst, inl, inr, ⊎_elim, arith, length-append, length-drop, take-append-drop, length-take-le, take_at, drop_at}
use Rattle.std.proofs.lemmas.List.{get_or-take}
use Rattle.std.proofs.lemmas.Bool.{cases_lt}
use Rattle.polar.specs.Shape.{Shape, leaf, node, leaves, balanced, LeftHeavy}
use Rattle.polar.specs.Words.{xor, plus, parity}
use Rattle.polar.specs.Labels.{join, label}
use Rattle.polar.specs.LabelLaws.{Added, nothing, passes, adds, Labelled, at_leaf, at_node}
use Rattle.polar.proofs.Shapes.{balanced_one, balanced_node, leaves_balanced, leaves_pos, halves}
use Rattle.polar.proofs.Label.{length_left, length_right, length_label}

-- x + y by the relation is `plus`
added_plus : (x y : List Bool) → length y ≤ length x → length x ≤ length y + 1 → Added x y (plus x y)
added_plus [] [] p q = nothing
added_plus [] (c ∷ y) p q = absurd (omega arith)
added_plus (b ∷ []) [] p q = passes b
added_plus (b ∷ a ∷ x) [] p q = absurd (omega arith)
added_plus (b ∷ x) (c ∷ y) p q = adds b c (added_plus x y (omega arith) (omega arith))

added_is : {x y z : List Bool} → Added x y z → z ≡ plus x y
added_is nothing = refl
added_is (passes b) = refl
added_is (adds b c more) = ap (λ z. xor b c ∷ z) (added_is more)

-- a length is that of its halves, and the halves of a sum are its parts
pub halves_sum : (n : ℕ) → 2 ≤ n → n - n / 2 + n / 2 ≡ n
halves_sum n h = omega arith

half_cases : (n : ℕ) → (n - n / 2 ≡ n / 2) ⊎ (n - n / 2 ≡ n / 2 + 1)
half_cases n = ⊎_elim (λ h. inl (omega arith)) (λ h. inr (omega arith)) (cases_lt (n % 2) 1)

pub labelled_label : (n : ℕ) → 1 ≤ n → (bs : List Bool) → length bs ≡ n → Labelled n bs (label (balanced n) bs)
labelled_label =
    halves (λ n. (bs : List Bool) → length bs ≡ n → Labelled n bs (label (balanced n) bs))
    one
    (λ n h left right bs size.
    let m = n - n / 2 in
    let k = n / 2 in
    let ls = take m bs in
    let rs = drop m bs in
    let size_l : length ls ≡ m = length-take-le m bs (omega arith) in
    let size_r : length rs ≡ k = length-drop m bs ∙ omega arith in
    let x = label (balanced m) ls in
    let y = label (balanced k) rs in
    let leaves_m : leaves (balanced m) ≡ m = leaves_balanced m (omega arith) in
    let leaves_k : leaves (balanced k) ≡ k = leaves_balanced k (omega arith) in
    let size_x : length x ≡ m = length_label (balanced m) ls (size_l ∙ sym leaves_m) ∙ leaves_m in
    let size_y : length y ≡ k = length_label (balanced k) rs (size_r ∙ sym leaves_k) ∙ leaves_k in
    let both = at_node (half_cases n) (left ls size_l) (right rs size_r) (added_plus x y (omega arith) (omega arith)) in
    let is : label (balanced n) bs ≡ join x y = ap (λ s. label s bs) (balanced_node n h) ∙ rw leaves_m in
    let sum : m + k ≡ n = halves_sum n h in
    let whole : ls ++ rs ≡ bs = take-append-drop m bs in
    rw is (subst (λ i. Labelled i bs (join x y)) sum (subst (λ z. Labelled (m + k) z (join x y)) whole both)))
  where
    one : (bs : List Bool) → length bs ≡ 1 → Labelled 1 bs (label (balanced 1) bs)
    one [] h = absurd (omega arith)
    one (b ∷ []) h = rw balanced_one (at_leaf b)
    one (b ∷ c ∷ bs) h = absurd (omega arith)

-- what the relation relates has the node's length
labelled_sizes : {n : ℕ} {bs c : List Bool} → Labelled n bs c → (1 ≤ n) × (length bs ≡ n)
labelled_sizes (at_leaf b) = (omega arith, refl)
labelled_sizes (at_node {ls = ls} {rs = rs} parts left right added) =
    let l = labelled_sizes left in
    let r = labelled_sizes right in
    (omega (arith, l.0), length-append ls rs ∙ omega (arith, l.1, r.1))

-- no other word is a node's label
pub labelled_only : {n : ℕ} {bs c : List Bool} → Labelled n bs c → c ≡ label (balanced n) bs
labelled_only (at_leaf b) = rw balanced_one
labelled_only (at_node {m} {n} {ls} {rs} {x} {y} parts left right added) =
    let l = labelled_sizes left in
    let r = labelled_sizes right in
    let mid : (m + n) - (m + n) / 2 ≡ m = halved parts in
    let rest : (m + n) / 2 ≡ n = omega arith in
    let shape : balanced (m + n) ≡ node (balanced m) (balanced n) = balanced_node (m + n) (omega (arith, l.0, r.0)) ∙ rw (mid, rest) in
    let size : leaves (balanced m) ≡ m = leaves_balanced m l.0 in
    let front : take m (ls ++ rs) ≡ ls = take_at ls rs m l.1 in
    let back : drop m (ls ++ rs) ≡ rs = drop_at ls rs m l.1 in
    let is : label (balanced (m + n)) (ls ++ rs) ≡ join (label (balanced m) ls) (label (balanced n) rs) =
    ap (λ s. label s (ls ++ rs)) shape ∙ rw (size, front, back) in
    sym (is ∙ rw (← labelled_only left, ← labelled_only right) (ap (λ z. z ++ y) (sym (added_is added))))
  where
    halved : (m ≡ n) ⊎ (m ≡ n + 1) → (m + n) - (m + n) / 2 ≡ m
    halved (inl e) = omega arith
    halved (inr e) = omega arith

-- the parity of a label is its first leaf's label
parity_append : (x y : List Bool) → parity (x ++ y) ≡ xor (parity x) (parity y)
parity_append [] y = own (parity y)
  where
    own : (b : Bool) → b ≡ xor false b
    own true = refl
    own false = refl
parity_append (a ∷ x) y = ap (xor a) (parity_append x y) ∙ assoc a (parity x) (parity y)
  where
    assoc : (a b c : Bool) → xor a (xor b c) ≡ xor (xor a b) c
    assoc a b c = grind arith

parity_plus : (x y : List Bool) → length y ≤ length x → parity (plus x y) ≡ xor (parity x) (parity y)
parity_plus [] [] p = refl
parity_plus [] (b ∷ y) p = absurd (omega arith)
parity_plus (a ∷ x) [] p = right (xor a (parity x))
  where
    right : (b : Bool) → b ≡ xor b false
    right true = refl
    right false = refl
parity_plus (a ∷ x) (b ∷ y) p = ap (xor (xor a b)) (parity_plus x y (omega arith)) ∙ swap a b (parity x) (parity y)
  where
    swap : (a b c d : Bool) → xor (xor a b) (xor c d) ≡ xor (xor a c) (xor b d)
    swap a b c d = grind arith

pub parity_label : (s : Shape) → LeftHeavy s → (bs : List Bool) → length bs ≡ leaves s → parity (label s bs) ≡ get_or bs 0 false
parity_label leaf w [] h = absurd (omega arith)
parity_label leaf w (b ∷ []) h = right b
  where
    right : (b : Bool) → xor b false ≡ b
    right true = refl
    right false = refl
parity_label leaf w (b ∷ c ∷ bs) h = absurd (omega arith)
parity_label (node l r) w bs h =
    let n = leaves l in
    let x = label l (take n bs) in
    let y = label r (drop n bs) in
    let size_x : length x ≡ n = length_label l (take n bs) (length_left l r bs h) in
    let size_y : length y ≡ leaves r = length_label r (drop n bs) (length_right l r bs h) in
    let some : 0 < n = leaves_pos l in
    parity_append (plus x y) y ∙ ap (λ z. xor z (parity y)) (parity_plus x y (omega (arith, w.0)))
    ∙ back (parity x) (parity y) ∙ parity_label l w.1 (take n bs) (length_left l r bs h) ∙ get_or-take n bs 0 false some
  where
    back : (a b : Bool) → xor (xor a b) b ≡ a
    back a b = grind arith
