-- Labels with 0 at each frozen leaf, by the labels of a node's two children. Assumes nothing.
use Rattle.std.proofs.Common.{◌≡◌, ◌+◌, ◌≤◌, Bool, true, false, List, [], ◌∷◌, ◌++◌, length, take, drop, sym, ap, ◌∙◌, subst, ⊎_elim, arith, take-append-drop, take_at, drop_at}
use Rattle.std.proofs.lemmas.Bool.{cases_lt}
use Rattle.polar.specs.Shape.{Shape, node, leaves, LeftHeavy}
use Rattle.polar.specs.Words.{xor, plus, trues}
use Rattle.polar.specs.Labels.{join, label, unlabel}
use Rattle.polar.specs.Marks.{Clear, Codeword, weight}
use Rattle.polar.proofs.Merges.{length_merge}
use Rattle.polar.proofs.Sums.{zeros, plus_back, zeros_from_trues}
use Rattle.polar.proofs.Label.{length_left, length_right, length_join, length_label, length_unlabel, label_unlabel, label_zeros, unlabel_label, join_left, join_right}
use Rattle.polar.proofs.Active.{clear_take, clear_drop}
use Rattle.polar.proofs.Distance.{heavy}

-- clear leaves have a label that is a codeword
pub label_codeword : (s : Shape) (ms bs : List Bool) → length bs ≡ leaves s → Clear ms bs → Codeword s ms (label s bs)
label_codeword s ms bs size clear = (length_label s bs size, subst (Clear ms) (sym (unlabel_label s bs size)) clear)

clear_append : (ms ns a b : List Bool) → length a ≡ length ms → Clear ms a → Clear ns b → Clear (ms ++ ns) (a ++ b)
clear_append [] ns [] b size p q = q
clear_append [] ns (x ∷ a) b size p q = absurd (omega arith)
clear_append (m ∷ ms) ns [] b size p q = absurd (omega arith)
clear_append (true ∷ ms) ns (x ∷ a) b size p q = clear_append ms ns a b (omega arith) p q
clear_append (false ∷ ms) ns (x ∷ a) b size p q = (p.0, clear_append ms ns a b (omega arith) p.1 q)

module _ (l r : Shape) (ms : List Bool) (size : length ms ≡ leaves l + leaves r) where
  -- of a codeword of the node: the two children's labels, and the node's from them
  abbrev pub left_part : List Bool → List Bool
  left_part c = plus (take (leaves l) c) (drop (leaves l) c)

  abbrev pub right_part : List Bool → List Bool
  right_part c = drop (leaves l) c

  pub parts_join : (c : List Bool) → c ≡ join (left_part c) (right_part c)
  parts_join c = sym (ap (λ z. z ++ right_part c) (plus_back (take (leaves l) c) (right_part c)) ∙ take-append-drop (leaves l) c)

  length_left_part : (c : List Bool) → length c ≡ leaves l + leaves r → length (left_part c) ≡ leaves l
  length_left_part c h = length_merge xor (take (leaves l) c) (drop (leaves l) c) ∙ length_left l r c h

  pub left_codeword : (c : List Bool) → Codeword (node l r) ms c → Codeword l (take (leaves l) ms) (left_part c)
  left_codeword c code =
      let n = leaves l in
      let wide = length_left_part c code.0 in
      let front = take_at (unlabel l (left_part c)) (unlabel r (right_part c)) n (length_unlabel l (left_part c) wide) in
      (wide, subst (Clear (take n ms)) front (clear_take n ms (unlabel (node l r) c) code.1))

  pub right_codeword : (c : List Bool) → Codeword (node l r) ms c → Codeword r (drop (leaves l) ms) (right_part c)
  right_codeword c code =
      let n = leaves l in
      let wide = length_left_part c code.0 in
      let back = drop_at (unlabel l (left_part c)) (unlabel r (right_part c)) n (length_unlabel l (left_part c) wide) in
      (length_right l r c code.0, subst (Clear (drop n ms)) back (clear_drop n ms (unlabel (node l r) c) code.1))

  pub join_codeword : (x y : List Bool) → Codeword l (take (leaves l) ms) x → Codeword r (drop (leaves l) ms) y → Codeword (node l r) ms (join x y)
  join_codeword x y p q =
      let n = leaves l in
      let a = unlabel l x in
      let b = unlabel r y in
      let is : unlabel (node l r) (join x y) ≡ a ++ b = rw (join_left x y n p.0, join_right x y n p.0) in
      let same : length a ≡ length (take n ms) = length_unlabel l x p.0 ∙ sym (length_left l r ms size) in
      let clear : Clear ms (a ++ b) = subst (λ z. Clear z (a ++ b)) (take-append-drop n ms) (clear_append (take n ms) (drop n ms) a b same p.1 q.1) in
      (length_join x y ∙ omega (arith, p.0, q.0), subst (Clear ms) (sym is) clear)

-- a tree with no active leaf has one label, all 0
pub frozen_codeword : (s : Shape) (ms c : List Bool) → LeftHeavy s → length ms ≡ leaves s → weight s ms ≡ 0 → Codeword s ms c → c ≡ zeros (leaves s)
frozen_codeword s ms c w size none code =
    let b = unlabel s c in
    let wide = length_unlabel s c code.0 in
    ⊎_elim
    (λ few. sym (label_unlabel s c code.0) ∙ ap (label s) (zeros_from_trues b (omega arith) ∙ ap zeros wide) ∙ label_zeros s)
    (λ some. absurd (omega (arith, (heavy s ms b w size wide code.1 some).0)))
    (cases_lt (trues b) 1)

-- two codewords are one if they are wherever a leaf is active
pub same_codeword : (s : Shape) (ms a c : List Bool) → LeftHeavy s → length ms ≡ leaves s → Codeword s ms a → Codeword s ms c → (1 ≤ weight s ms → a ≡ c) → a ≡ c
same_codeword s ms a c w size p q active =
    ⊎_elim
    (λ few. let none : weight s ms ≡ 0 = omega arith in frozen_codeword s ms a w size none p ∙ sym (frozen_codeword s ms c w size none q))
    active
    (cases_lt (weight s ms) 1)
