-- The smallest weight over the nodes of a tree is the tree's weight. Assumes nothing.
use Rattle.std.proofs.Common.{◌≡◌, ℕ, zero, suc, ◌+◌, ◌-◌, ◌*◌, ◌^◌, ◌<◌, ◌≤◌, Bool, true, false, cond, eqb, min, List, [], ◌∷◌, ◌++◌, get_or, take, drop, Some, ⊎_elim, sym, refl, ap, ◌∙◌, mul_assoc, mul-le-mul_left, mul-add, arith, take-take}
use Rattle.std.specs.List.{All, cons_option, filter_map, fold, reduce}
use Rattle.std.proofs.lemmas.List.Elements.{All-nil, All-cons, All-append}
use Rattle.std.proofs.lemmas.List.{drop-take, drop-drop}
use Rattle.std.proofs.lemmas.Bool.Decides.{nat_tests}
use Rattle.std.proofs.lemmas.Bool.{ne_eqb, cases_lt}
use Rattle.polar.specs.Shape.{Shape, leaf, node, leaves, balanced, LeftHeavy}
use Rattle.polar.specs.Marks.{lesser, weight}
use Rattle.polar.specs.Preorder.{nodes, reading_order}
use Rattle.polar.specs.Lightest.{node_weight, some_weight, lesser_of, lightest, Within}
use Rattle.polar.specs.declared.frame.Node.{Node}
use Rattle.polar.proofs.Shapes.{leaves_pos, leaves_balanced, left_heavy_balanced, few_turns}

pub lesser_assoc : (u v w : ℕ) → lesser (lesser u v) w ≡ lesser u (lesser v w)
lesser_assoc u v w = grind (arith, nat_tests)

pub lesser_none : (v : ℕ) → lesser v 0 ≡ v
lesser_none v = grind (arith, nat_tests)

lesser_twice : (v w : ℕ) → lesser (2 * v) (2 * w) ≡ 2 * lesser v w
lesser_twice v w = grind (arith, nat_tests)

lightest_append : (ms : List Bool) (ns ps : List Node) → lightest ms (ns ++ ps) ≡ lesser (lightest ms ns) (lightest ms ps)
lightest_append ms [] ps = refl
lightest_append ms (n ∷ ns) ps =
    ap (lesser (node_weight ms n)) (lightest_append ms ns ps) ∙ sym (lesser_assoc (node_weight ms n) (lightest ms ns) (lightest ms ps))

-- the marks past a tree's leaves do not matter
weight_front : (s : Shape) (k : ℕ) (ms : List Bool) → leaves s ≤ k → weight s (take k ms) ≡ weight s ms
weight_front leaf zero ms h = absurd (omega arith)
weight_front leaf (suc k) [] h = refl
weight_front leaf (suc k) (true ∷ ms) h = refl
weight_front leaf (suc k) (false ∷ ms) h = refl
weight_front (node l r) k ms h =
    let n = leaves l in
    let parts : n + (k - n) ≡ k = omega arith in
    let left : take n (take k ms) ≡ take n ms = take-take n k ms (omega arith) in
    let right : drop n (take k ms) ≡ take (k - n) (drop n ms) = ap (λ j. drop n (take j ms)) (sym parts) ∙ drop-take n (k - n) ms in
    rw (left, right, weight_front r (k - n) (drop n ms) (omega arith))

weight_leaf_at : (ms : List Bool) (from : ℕ) → weight leaf (drop from ms) ≡ cond (get_or ms from false) 1 0
weight_leaf_at [] zero = refl
weight_leaf_at [] (suc from) = refl
weight_leaf_at (true ∷ ms) zero = refl
weight_leaf_at (false ∷ ms) zero = refl
weight_leaf_at (m ∷ ms) (suc from) = weight_leaf_at ms from

module _ (ms : List Bool) where
  -- an inner node has no weight of its own
  inner : (l r : Shape) (from t : ℕ) → lightest ms (nodes (node l r) from t) ≡ lesser (lightest ms (nodes l from t)) (lightest ms (nodes r (from + leaves l) (t + 1)))
  inner l r from t =
      let long : eqb (leaves l + leaves r) 1 ≡ false = ne_eqb (leaves l + leaves r) 1 (λ (one : leaves l + leaves r ≡ 1). omega (arith, leaves_pos l, leaves_pos r)) in
      rw long (lightest_append ms (nodes l from t) (nodes r (from + leaves l) (t + 1)))

  single : (b : Bool) (t : ℕ) → lesser (cond b (2 ^ (t + 1)) 0) 0 ≡ 2 * lesser (cond b (2 ^ t) 0) 0
  single true t =
      let next : t + 1 ≡ suc t = omega arith in
      let twice : 2 ^ suc t ≡ 2 * 2 ^ t = omega arith in
      lesser_none (2 ^ (t + 1)) ∙ ap (λ k. 2 ^ k) next ∙ twice ∙ ap (λ n. 2 * n) (sym (lesser_none (2 ^ t)))
  single false t = refl

  -- one turn more doubles each weight
  turned : (s : Shape) (from t : ℕ) → lightest ms (nodes s from (t + 1)) ≡ 2 * lightest ms (nodes s from t)
  turned leaf from t = single (get_or ms from false) t
  turned (node l r) from t =
      let at = from + leaves l in
      inner l r from (t + 1)
      ∙ rw (turned l from t, turned r at (t + 1))
      (lesser_twice (lightest ms (nodes l from t)) (lightest ms (nodes r at (t + 1))) ∙ ap (λ n. 2 * n) (sym (inner l r from t)))

  lone : (b : Bool) → lesser (cond b 1 0) 0 ≡ cond b 1 0
  lone true = refl
  lone false = refl

  pub lightest_weight : (s : Shape) (from : ℕ) → lightest ms (nodes s from 0) ≡ weight s (drop from ms)
  lightest_weight leaf from = lone (get_or ms from false) ∙ sym (weight_leaf_at ms from)
  lightest_weight (node l r) from =
      let n = leaves l in
      let left : lightest ms (nodes l from 0) ≡ weight l (take n (drop from ms)) =
      lightest_weight l from ∙ sym (weight_front l n (drop from ms) (omega arith)) in
      let right : lightest ms (nodes r (from + n) 1) ≡ 2 * weight r (drop n (drop from ms)) =
      turned r (from + n) 0 ∙ ap (λ w. 2 * w) (lightest_weight r (from + n) ∙ ap (weight r) (sym (drop-drop n from ms))) in
      inner l r from 0 ∙ rw (left, right)

-- Each node lies within the block and has at most 12 turns, since a turn at least halves the length.
within_by : (s : Shape) (from t len : ℕ) → LeftHeavy s → from + leaves s ≤ len → 2 ^ t * leaves s ≤ 4096 → All (Within len) (nodes s from t)
within_by leaf from t len w h small = All-cons (Within len) _ [] (h, few_turns t (omega arith)) (All-nil (Within len))
within_by (node l r) from t len w h small =
    let p = 2 ^ t in
    let next : t + 1 ≡ suc t = omega arith in
    let sum : p * (leaves l + leaves r) ≡ p * leaves l + p * leaves r = mul-add p (leaves l) (leaves r) in
    let less : p * leaves r ≤ p * leaves l = mul-le-mul_left p w.0 in
    let double : 2 ^ suc t ≡ 2 * p = omega arith in
    let twice : 2 ^ (t + 1) * leaves r ≡ 2 * (p * leaves r) = ap (λ k. 2 ^ k * leaves r) next ∙ ap (λ q. q * leaves r) double ∙ mul_assoc 2 p (leaves r) in
    let one : p * 1 ≤ p * (leaves l + leaves r) = mul-le-mul_left p (omega (arith, leaves_pos l)) in
    All-cons (Within len) _ _
    (h, few_turns t (omega arith))
    (All-append (Within len) (nodes l from t) (nodes r (from + leaves l) (t + 1))
    (within_by l from t len w.1 (omega arith) (omega arith)) (within_by r (from + leaves l) (t + 1) len w.2 (omega arith) (omega arith)))

pub nodes_within : (n : ℕ) → 1 ≤ n → n ≤ 4096 → All (Within n) (reading_order n)
nodes_within n some short =
    let size = leaves_balanced n some in
    within_by (balanced n) 0 0 n (left_heavy_balanced n some) (omega arith) (omega arith)

pub some_weight_is : (w : ℕ) → 0 < w → some_weight w ≡ Some w
some_weight_is w some = grind (arith, nat_tests)

-- the smaller of two weights that may be missing
pub lesser_weights : (v w : ℕ) → lesser_of (some_weight v) (some_weight w) ≡ some_weight (lesser v w)
lesser_weights v w =
    ⊎_elim
    (λ none. let zero : v ≡ 0 = omega arith in rw zero refl)
    (λ some.
    ⊎_elim
    (λ none.
    let zero : w ≡ 0 = omega arith in
    rw (zero, lesser_none v, some_weight_is v some) refl)
    (λ both.
    let least : lesser v w ≡ min v w = grind (arith, nat_tests) in
    let more : 0 < min v w = omega arith in
    rw (some_weight_is v some, some_weight_is w both, least, some_weight_is (min v w) more) refl)
    (cases_lt w 1))
    (cases_lt v 1)

-- one node more, where `fold` of the others from any weight is known
least_step : (w l : ℕ) (ws : List ℕ) (a : ℕ) → 0 < a → ((b : ℕ) → 0 < b → fold min b ws ≡ lesser b l)
    → fold min a (cons_option (some_weight w) ws) ≡ lesser a (lesser w l)
least_step w l ws a pos rest =
    ⊎_elim
    (λ none. let zero : w ≡ 0 = omega arith in rw zero (rest a pos))
    (λ some.
    rw (some_weight_is w some) (rest (min a w) (omega arith) ∙ grind (arith, nat_tests)))
    (cases_lt w 1)

least_from : (ms : List Bool) (ns : List Node) (a : ℕ) → 0 < a → fold min a (filter_map (λ n. some_weight (node_weight ms n)) ns) ≡ lesser a (lightest ms ns)
least_from ms [] a pos = sym (lesser_none a)
least_from ms (n ∷ ns) a pos = least_step (node_weight ms n) (lightest ms ns) _ a pos (λ b h. least_from ms ns b h)

least_first : (w l : ℕ) (ws : List ℕ) → reduce min ws ≡ some_weight l → ((b : ℕ) → 0 < b → fold min b ws ≡ lesser b l)
    → reduce min (cons_option (some_weight w) ws) ≡ some_weight (lesser w l)
least_first w l ws others rest =
    ⊎_elim
    (λ none. let zero : w ≡ 0 = omega arith in rw zero others)
    (λ some.
    let least : 0 < lesser w l = grind (arith, nat_tests) in
    rw (some_weight_is w some) (ap Some (rest w some) ∙ sym (some_weight_is (lesser w l) least)))
    (cases_lt w 1)

-- the smallest of the weights that there are
pub least_chosen : (ms : List Bool) (ns : List Node) → reduce min (filter_map (λ n. some_weight (node_weight ms n)) ns) ≡ some_weight (lightest ms ns)
least_chosen ms [] = refl
least_chosen ms (n ∷ ns) = least_first (node_weight ms n) (lightest ms ns) _ (least_chosen ms ns) (λ b h. least_from ms ns b h)
