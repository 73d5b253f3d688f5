-- The laws of a tree's label. Assumes nothing.
use Rattle.std.proofs.Common.{◌≡◌, ℕ, ◌+◌, ◌-◌, Bool, false, List, ◌++◌, length, take, drop, sym, refl, ap, ◌∙◌, arith, length-append, length-drop, take-append-drop, length-take-le, take_at, drop_at}
use lib.ListN.{replicate-append-replicate}
use Rattle.std.proofs.lemmas.List.{take-replicate, drop-replicate}
use Rattle.polar.specs.Shape.{Shape, leaf, node, leaves}
use Rattle.polar.specs.Words.{xor, plus}
use Rattle.polar.specs.Labels.{join, label, unlabel}
use Rattle.polar.proofs.Merges.{length_merge, merge_append, take_merge, drop_merge}
use Rattle.polar.proofs.Sums.{zeros, plus_back, plus_swap, plus_zeros}

-- the two parts of a word of a node have the lengths of its children
pub length_left : (l r : Shape) (bs : List Bool) → length bs ≡ leaves (node l r) → length (take (leaves l) bs) ≡ leaves l
length_left l r bs h = length-take-le (leaves l) bs (omega arith)

pub length_right : (l r : Shape) (bs : List Bool) → length bs ≡ leaves (node l r) → length (drop (leaves l) bs) ≡ leaves r
length_right l r bs h = length-drop (leaves l) bs ∙ omega arith

pub length_join : (x y : List Bool) → length (join x y) ≡ length x + length y
length_join x y = length-append (plus x y) y ∙ ap (λ n. n + length y) (length_merge xor x y)

pub length_label : (s : Shape) (bs : List Bool) → length bs ≡ leaves s → length (label s bs) ≡ leaves s
length_label leaf bs h = h
length_label (node l r) bs h =
    let x = length_label l (take (leaves l) bs) (length_left l r bs h) in
    let y = length_label r (drop (leaves l) bs) (length_right l r bs h) in
    length_join (label l (take (leaves l) bs)) (label r (drop (leaves l) bs)) ∙ omega arith

pub length_unlabel : (s : Shape) (c : List Bool) → length c ≡ leaves s → length (unlabel s c) ≡ leaves s
length_unlabel leaf c h = h
length_unlabel (node l r) c h =
    let left = plus (take (leaves l) c) (drop (leaves l) c) in
    let x = length_unlabel l left (length_merge xor (take (leaves l) c) (drop (leaves l) c) ∙ length_left l r c h) in
    let y = length_unlabel r (drop (leaves l) c) (length_right l r c h) in
    length-append (unlabel l left) (unlabel r (drop (leaves l) c)) ∙ omega arith

-- from x and y joined, y is the right part, and x the left part plus y
pub join_left : (x y : List Bool) (n : ℕ) → length x ≡ n → plus (take n (join x y)) (drop n (join x y)) ≡ x
join_left x y n h =
    let p : length (plus x y) ≡ n = length_merge xor x y ∙ h in
    rw (take_at (plus x y) y n p, drop_at (plus x y) y n p) (plus_back x y)

pub join_right : (x y : List Bool) (n : ℕ) → length x ≡ n → drop n (join x y) ≡ y
join_right x y n h = drop_at (plus x y) y n (length_merge xor x y ∙ h)

pub unlabel_label : (s : Shape) (bs : List Bool) → length bs ≡ leaves s → unlabel s (label s bs) ≡ bs
unlabel_label leaf bs h = refl
unlabel_label (node l r) bs h =
    let x = label l (take (leaves l) bs) in
    let y = label r (drop (leaves l) bs) in
    let n = length_label l (take (leaves l) bs) (length_left l r bs h) in
    let left = ap (unlabel l) (join_left x y (leaves l) n) ∙ unlabel_label l (take (leaves l) bs) (length_left l r bs h) in
    let right = ap (unlabel r) (join_right x y (leaves l) n) ∙ unlabel_label r (drop (leaves l) bs) (length_right l r bs h) in
    rw (left, right) (take-append-drop (leaves l) bs)

pub label_unlabel : (s : Shape) (c : List Bool) → length c ≡ leaves s → label s (unlabel s c) ≡ c
label_unlabel leaf c h = refl
label_unlabel (node l r) c h =
    let x = take (leaves l) c in
    let y = drop (leaves l) c in
    let m : length (plus x y) ≡ leaves l = length_merge xor x y ∙ length_left l r c h in
    let n = length_unlabel l (plus x y) m in
    let left : label l (take (leaves l) (unlabel l (plus x y) ++ unlabel r y)) ≡ plus x y = ap (label l) (take_at (unlabel l (plus x y)) (unlabel r y) (leaves l) n) ∙ label_unlabel l (plus x y) m in
    let right : label r (drop (leaves l) (unlabel l (plus x y) ++ unlabel r y)) ≡ y = ap (label r) (drop_at (unlabel l (plus x y)) (unlabel r y) (leaves l) n) ∙ label_unlabel r y (length_right l r c h) in
    rw (left, right, plus_back x y) (take-append-drop (leaves l) c)

pub label_zeros : (s : Shape) → label s (zeros (leaves s)) ≡ zeros (leaves s)
label_zeros leaf = refl
label_zeros (node l r) =
    let n = leaves l in
    let m = leaves r in
    let left : label l (take n (zeros (n + m))) ≡ zeros n = ap (label l) (take-replicate n (n + m) false (omega arith)) ∙ label_zeros l in
    let size : n + m - n ≡ m = omega arith in
    let right : label r (drop n (zeros (n + m))) ≡ zeros m = ap (label r) (drop-replicate n (n + m) false ∙ ap zeros size) ∙ label_zeros r in
    rw (left, right, plus_zeros (zeros n) m) (replicate-append-replicate n m false)

-- the label of a sum is the sum of the labels
pub label_plus : (s : Shape) (a b : List Bool) → length a ≡ leaves s → length b ≡ leaves s → label s (plus a b) ≡ plus (label s a) (label s b)
label_plus leaf a b p q = refl
label_plus (node l r) a b p q =
    let n = leaves l in
    let x = label l (take n a) in
    let x' = label l (take n b) in
    let y = label r (drop n a) in
    let y' = label r (drop n b) in
    let lx : length x ≡ n = length_label l (take n a) (length_left l r a p) in
    let lx' : length x' ≡ n = length_label l (take n b) (length_left l r b q) in
    let ly : length y ≡ leaves r = length_label r (drop n a) (length_right l r a p) in
    let ly' : length y' ≡ leaves r = length_label r (drop n b) (length_right l r b q) in
    let left : label l (take n (plus a b)) ≡ plus x x' = ap (label l) (take_merge xor n a b) ∙ label_plus l (take n a) (take n b) (length_left l r a p) (length_left l r b q) in
    let right : label r (drop n (plus a b)) ≡ plus y y' = ap (label r) (drop_merge xor n a b) ∙ label_plus r (drop n a) (drop n b) (length_right l r a p) (length_right l r b q) in
    let apart : plus (join x y) (join x' y') ≡ plus (plus x y) (plus x' y') ++ plus y y' =
    merge_append xor (plus x y) y (plus x' y') y' (length_merge xor x y ∙ lx ∙ sym lx' ∙ sym (length_merge xor x' y')) in
    let swapped = plus_swap x y x' y' (lx ∙ sym lx') (ly ∙ sym ly') in
    rw (left, right) (sym (apart ∙ ap (λ z. z ++ plus y y') swapped))

pub unlabel_plus : (s : Shape) (a b : List Bool) → length a ≡ leaves s → length b ≡ leaves s → unlabel s (plus a b) ≡ plus (unlabel s a) (unlabel s b)
unlabel_plus s a b p q =
    let u = length_unlabel s a p in
    let v = length_unlabel s b q in
    let sums : label s (plus (unlabel s a) (unlabel s b)) ≡ plus a b =
    label_plus s (unlabel s a) (unlabel s b) u v ∙ rw (label_unlabel s a p, label_unlabel s b q) in
    ap (unlabel s) (sym sums) ∙ unlabel_label s (plus (unlabel s a) (unlabel s b)) (length_merge xor (unlabel s a) (unlabel s b) ∙ u)
