-- What in-place work on the two parts of a slice leaves, and what it makes of a balanced tree's label. Assumes nothing.
use Rattle.std.proofs.Common.{◌≡◌, ℕ, ◌-◌, ◌/◌, ◌<◌, ◌≤◌, Bool, true, false, cond, List, [], ◌∷◌, ◌++◌, length, get_or, take, drop, sym, ap, ◌∙◌, ⊎_elim, append-nil, arith, length-drop, length-take-le, take_all, take_at, drop_at}
use native.Mathlib.Nat.{sub-zero}
use borrow.Rule.Slice.PartMut.{put_mid, post_of}
use Rattle.std.proofs.lemmas.List.{take_rest, drop_all}
use Rattle.std.proofs.lemmas.Bool.{cases_lt}
use Rattle.polar.specs.Shape.{node, leaves, balanced}
use Rattle.polar.specs.Words.{xor, plus, parity}
use Rattle.polar.specs.Labels.{join, label, unlabel}
use Rattle.polar.proofs.Shapes.{balanced_leaf, balanced_node, leaves_balanced, left_heavy_balanced}
use Rattle.polar.proofs.Merges.{length_merge, merge_past, merge_nil, take_merge, drop_merge}
use Rattle.polar.proofs.Label.{length_label, length_unlabel, unlabel_label, label_unlabel}
use Rattle.polar.proofs.Relation.{parity_label}

-- e is the slice at first, x what its first m places become, and then y what the rest becomes
module _ (e x y : List Bool) (m : ℕ) (within : m ≤ length e) (front : length x ≡ m) where
  pub left_done : x ++ post_of 0 (m - 0) e ≡ x ++ drop m e
  left_done = rw sub-zero

  pub right_part : take (length (x ++ post_of 0 (m - 0) e) - m) (drop m (x ++ post_of 0 (m - 0) e)) ≡ drop m e
  right_part = take_rest (x ++ post_of 0 (m - 0) e) m ∙ ap (drop m) left_done ∙ drop_at x (drop m e) m front

  pub both_done : put_mid m (length (x ++ post_of 0 (m - 0) e) - m) (x ++ post_of 0 (m - 0) e) y ≡ x ++ y
  both_done =
      let b = x ++ post_of 0 (m - 0) e in
      let start : take m b ≡ x = take_at x (post_of 0 (m - 0) e) m front in
      let rest : drop (length b - m) (drop m b) ≡ [] = drop_all (length b - m) (drop m b) (omega (arith, length-drop m b)) in
      rw (start, rest, append-nil y)

-- the label of the balanced tree over leaves e, and the leaves of one
abbrev pub labelled : List Bool → List Bool
labelled e = label (balanced (length e)) e

abbrev pub unlabelled : List Bool → List Bool
unlabelled e = unlabel (balanced (length e)) e

pub labelled_short : (e : List Bool) → length e < 2 → e ≡ labelled e
labelled_short e h = rw (balanced_leaf (length e) h)

pub unlabelled_short : (e : List Bool) → length e < 2 → e ≡ unlabelled e
unlabelled_short e h = rw (balanced_leaf (length e) h)

pub length_labelled : (e : List Bool) → length (labelled e) ≡ length e
length_labelled e =
    ⊎_elim
    (λ h. ap length (sym (labelled_short e h)))
    (λ h. let n = leaves_balanced (length e) (omega arith) in length_label (balanced (length e)) e (sym n) ∙ n)
    (cases_lt (length e) 2)

pub length_unlabelled : (e : List Bool) → length (unlabelled e) ≡ length e
length_unlabelled e =
    ⊎_elim
    (λ h. ap length (sym (unlabelled_short e h)))
    (λ h. let n = leaves_balanced (length e) (omega arith) in length_unlabel (balanced (length e)) e (sym n) ∙ n)
    (cases_lt (length e) 2)

-- the two undo each other at every length, and a label's parity is its first leaf's label
pub unlabelled_labelled : (e : List Bool) → unlabel (balanced (length e)) (labelled e) ≡ e
unlabelled_labelled e =
    ⊎_elim
    (λ h. rw (balanced_leaf (length e) h))
    (λ h. unlabel_label (balanced (length e)) e (sym (leaves_balanced (length e) (omega arith))))
    (cases_lt (length e) 2)

pub labelled_unlabelled : (e : List Bool) → label (balanced (length e)) (unlabelled e) ≡ e
labelled_unlabelled e =
    ⊎_elim
    (λ h. rw (balanced_leaf (length e) h))
    (λ h. label_unlabel (balanced (length e)) e (sym (leaves_balanced (length e) (omega arith))))
    (cases_lt (length e) 2)

pub parity_labelled : (e : List Bool) → parity (labelled e) ≡ get_or e 0 false
parity_labelled [] = ap (λ s. parity (label s [])) (balanced_leaf 0 (omega arith))
parity_labelled (b ∷ e) =
    let n = length (b ∷ e) in
    parity_label (balanced n) (left_heavy_balanced n (omega arith)) (b ∷ e) (sym (leaves_balanced n (omega arith)))

-- a slice of 2 places and more, cut where its tree's root is
module _ (e : List Bool) (m : ℕ) (long : 2 ≤ length e) (mid : m ≡ length e - length e / 2) where
  size_left : length (take m e) ≡ m
  size_left = length-take-le m e (omega arith)

  size_right : length (drop m e) ≡ length e / 2
  size_right = length-drop m e ∙ omega arith

  -- the children's shapes are those of the two parts
  shape : balanced (length e) ≡ node (balanced m) (balanced (length e / 2))
  shape = balanced_node (length e) long ∙ rw mid

  leaves_left : leaves (balanced m) ≡ m
  leaves_left = leaves_balanced m (omega arith)

  labelled_node : labelled e ≡ join (labelled (take m e)) (labelled (drop m e))
  labelled_node =
      ap (λ s. label s e) shape
      ∙ rw (leaves_left, size_left, size_right)

  unlabelled_node : unlabelled e ≡ unlabelled (plus (take m e) (drop m e)) ++ unlabelled (drop m e)
  unlabelled_node =
      ap (λ s. unlabel s e) shape
      ∙ rw (leaves_left, length_merge xor (take m e) (drop m e), size_left, size_right)

  -- halves first, then the right one added to the left one
  pub label_in_place : plus (labelled (take m e) ++ labelled (drop m e)) (drop m (labelled (take m e) ++ labelled (drop m e))) ≡ labelled e
  label_in_place =
      let x = labelled (take m e) in
      let y = labelled (drop m e) in
      let lx : length x ≡ m = length_labelled (take m e) ∙ size_left in
      let ly : length y ≡ length e / 2 = length_labelled (drop m e) ∙ size_right in
      rw (drop_at x y m lx) (merge_past xor x y y (omega arith) ∙ sym labelled_node)

  -- the right half added to the left one, then the halves
  pub unlabel_in_place : (b : List Bool) → b ≡ plus e (drop m e) → unlabelled (take m b) ++ unlabelled (drop m b) ≡ unlabelled e
  unlabel_in_place b is =
      let left : take m b ≡ plus (take m e) (drop m e) =
      ap (take m) is ∙ take_merge xor m e (drop m e) ∙ ap (plus (take m e)) (take_all m (drop m e) (omega (arith, size_right))) in
      let past : drop m (drop m e) ≡ [] = drop_all m (drop m e) (omega (arith, size_right)) in
      let right : drop m b ≡ drop m e = ap (drop m) is ∙ drop_merge xor m e (drop m e) ∙ ap (plus (drop m e)) past ∙ merge_nil xor (drop m e) in
      rw (left, right) (sym unlabelled_node)

-- What the two in-place recursions leave, from what their calls promise: x and y are what the calls on the two parts of b leave.
pub combined : (e x y : List Bool) (m : ℕ) → 2 ≤ length e → m ≡ length e - length e / 2
    → x ≡ labelled (take (m - 0) e)
    → y ≡ labelled (take (length (x ++ post_of 0 (m - 0) e) - m) (drop m (x ++ post_of 0 (m - 0) e)))
    → (b : List Bool) → b ≡ plus (put_mid m (length (x ++ post_of 0 (m - 0) e) - m) (x ++ post_of 0 (m - 0) e) y) (drop m (put_mid m (length (x ++ post_of 0 (m - 0) e) - m) (x ++ post_of 0 (m - 0) e) y))
    → b ≡ labelled e
combined e x y m long mid first second b is =
    let left : x ≡ labelled (take m e) = rw sub-zero at first in
    let front : length x ≡ m = ap length left ∙ length_labelled (take m e) ∙ length-take-le m e (omega arith) in
    let right : y ≡ labelled (drop m e) = second ∙ ap labelled (right_part e x y m (omega arith) front) in
    is ∙ rw (both_done e x y m (omega arith) front, left, right) (label_in_place e m long mid)

pub taken_apart : (e b x y : List Bool) (m : ℕ) → 2 ≤ length e → m ≡ length e - length e / 2
    → b ≡ plus e (drop m e)
    → x ≡ unlabelled (take (m - 0) b)
    → y ≡ unlabelled (take (length (x ++ post_of 0 (m - 0) b) - m) (drop m (x ++ post_of 0 (m - 0) b)))
    → put_mid m (length (x ++ post_of 0 (m - 0) b) - m) (x ++ post_of 0 (m - 0) b) y ≡ unlabelled e
taken_apart e b x y m long mid is first second =
    let size : length b ≡ length e = ap length is ∙ length_merge xor e (drop m e) in
    let left : x ≡ unlabelled (take m b) = rw sub-zero at first in
    let front : length x ≡ m = ap length left ∙ length_unlabelled (take m b) ∙ length-take-le m b (omega arith) in
    let right : y ≡ unlabelled (drop m b) = second ∙ ap unlabelled (right_part b x y m (omega arith) front) in
    both_done b x y m (omega arith) front ∙ rw (left, right) (unlabel_in_place e m long mid b is)

-- the same for either direction: b is what is there before the calls on the two parts, and z what is left at the end
pub passed : (inverse : Bool) (e b x y z : List Bool) (m : ℕ) → 2 ≤ length e → m ≡ length e - length e / 2
    → b ≡ cond inverse (plus e (drop m e)) e
    → x ≡ cond inverse (unlabelled (take (m - 0) b)) (labelled (take (m - 0) b))
    → y
    ≡ cond inverse (unlabelled (take (length (x ++ post_of 0 (m - 0) b) - m) (drop m (x ++ post_of 0 (m - 0) b))))
    (labelled (take (length (x ++ post_of 0 (m - 0) b) - m) (drop m (x ++ post_of 0 (m - 0) b))))
    → z
    ≡ cond inverse (put_mid m (length (x ++ post_of 0 (m - 0) b) - m) (x ++ post_of 0 (m - 0) b) y)
    (plus (put_mid m (length (x ++ post_of 0 (m - 0) b) - m) (x ++ post_of 0 (m - 0) b) y) (drop m (put_mid m (length (x ++ post_of 0 (m - 0) b) - m) (x ++ post_of 0 (m - 0) b) y)))
    → z ≡ cond inverse (unlabelled e) (labelled e)
passed true e b x y z m long mid before first second after = after ∙ taken_apart e b x y m long mid before first second
passed false e b x y z m long mid before first second after =
    let size = ap length before in combined b x y m (omega arith) (omega arith) first second z after ∙ ap labelled before
