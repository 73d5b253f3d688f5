-- The right branches on the way to a leaf, node by node, and the first lightest leaf. Assumes nothing.
use Rattle.std.proofs.Common.{◌≡◌, ℕ, zero, suc, ◌+◌, ◌-◌, ◌/◌, ◌<◌, ◌≤◌, Bool, true, false, ◌&&◌, eqb, List, [], ◌∷◌, length, get_or, Some, None, Option, sym, refl, ap, ◌∙◌, subst, ⊎_elim, arith}
use Rattle.std.specs.List.{find, range_with_len}
use Rattle.std.specs.Option.{IsSomeAnd, option_map}
use Rattle.std.proofs.lemmas.Bool.{cases_Bool, cases_lt, and_parts, and_from, eqb-true, eq-eqb, false≢true}
use Rattle.polar.specs.Shape.{balanced, leaves, turns}
use Rattle.polar.specs.Codewords.{tree_of}
use Rattle.polar.specs.Distances.{LeastWeight}
use Rattle.polar.proofs.Shapes.{balanced_one, balanced_node, leaves_balanced}
use Rattle.polar.proofs.Distance.{turns_left, turns_right}
use Rattle.analyser.specs.Worst.{plan_weight, leaf_weight, FirstLightest}

module _ (n i : ℕ) (h : 2 ≤ n) where
  left_size : leaves (balanced (n - n / 2)) ≡ n - n / 2
  left_size = leaves_balanced (n - n / 2) (omega arith)

  right_size : leaves (balanced (n / 2)) ≡ n / 2
  right_size = leaves_balanced (n / 2) (omega arith)

  -- a leaf under the left child, and one under the right child
  pub under_left : i < n - n / 2 → get_or (turns (balanced n)) i 0 ≡ get_or (turns (balanced (n - n / 2))) i 0
  under_left p =
      ap (λ s. get_or (turns s) i 0) (balanced_node n h) ∙ turns_left (balanced (n - n / 2)) (balanced (n / 2)) i (omega (arith, left_size))

  pub under_right : n - n / 2 ≤ i → i < n → get_or (turns (balanced n)) i 0 ≡ suc (get_or (turns (balanced (n / 2))) (i - (n - n / 2)) 0)
  under_right p q =
      ap (λ s. get_or (turns s) i 0) (balanced_node n h)
      ∙ turns_right (balanced (n - n / 2)) (balanced (n / 2)) i (omega (arith, left_size)) (omega (arith, left_size, right_size))
      ∙ ap (λ k. suc (get_or (turns (balanced (n / 2))) (i - k) 0)) left_size

-- a leaf alone has no turns
pub at_leaf : (n i : ℕ) → n < 2 → i < n → get_or (turns (balanced n)) i 0 ≡ 0
at_leaf n i h p =
    let one : n ≡ 1 = omega arith in
    let first : i ≡ 0 = omega arith in
    ap (λ k. get_or (turns (balanced k)) i 0) one ∙ ap (λ k. get_or (turns (balanced 1)) k 0) first ∙ ap (λ s. get_or (turns s) 0 0) balanced_one

active_within : (ms : List Bool) (i : ℕ) → get_or ms i false ≡ true → i < length ms
active_within [] i a = absurd (grind arith)
active_within (m ∷ ms) zero a = omega arith
active_within (m ∷ ms) (suc i) a = omega (arith, active_within ms i a)

-- every active leaf before this place weighs more than the plan
abbrev pub HeavierBefore : List Bool → ℕ → Type 0
HeavierBefore ms i = (j : ℕ) → j < i → get_or ms j false ≡ true → plan_weight ms < leaf_weight ms j

module _ (ms : List Bool) (d : ℕ) (is : d ≡ plan_weight ms) (least : LeastWeight (tree_of ms) ms d) where
  -- then a leaf that weighs as much is still ahead
  pub ahead : (i : ℕ) → HeavierBefore ms i → i < length ms
  ahead i all =
      let at = least.attained.0 in
      let active = least.attained.2 in
      let same : d ≡ leaf_weight ms at = least.attained.3 in
      let within = active_within ms at active in
      ⊎_elim (λ before. absurd (omega (arith, all at before active))) (λ later. omega arith) (cases_lt at i)

  pub found : (i : ℕ) → HeavierBefore ms i → (get_or ms i false && eqb (leaf_weight ms i) d) ≡ true → FirstLightest ms i
  found i all holds =
      let parts = and_parts (get_or ms i false) (eqb (leaf_weight ms i) d) holds in
      record { within = ahead i all; active = parts.0; lightest = eqb-true (leaf_weight ms i) d parts.1 ∙ is; first = all }

  -- a leaf that is frozen or weighs something else is passed
  pub passed : (i : ℕ) → HeavierBefore ms i → (get_or ms i false && eqb (leaf_weight ms i) d) ≡ false → HeavierBefore ms (i + 1)
  passed i all fails j before active =
      ⊎_elim
      (λ less. all j less active)
      (λ not_less.
      let here : j ≡ i = omega arith in
      let size : leaves (tree_of ms) ≡ length ms = leaves_balanced (length ms) (omega (arith, active_within ms j active)) in
      let below : d ≤ leaf_weight ms j = least.below j (omega (arith, active_within ms j active)) active in
      let other : leaf_weight ms j ≡ d → ⊥ = λ e.
      false≢true (sym fails ∙ subst (λ k. (get_or ms k false && eqb (leaf_weight ms k) d) ≡ true) here (and_from (get_or ms j false) (eqb (leaf_weight ms j) d) active (eq-eqb (leaf_weight ms j) d e))) in
      ⊎_elim (λ more. omega arith) (λ most. absurd (other (omega arith))) (cases_lt d (leaf_weight ms j)))
      (cases_lt j i)

  -- so it is found, looked for from this place on
  lightest_from : (n i : ℕ) → length ms ≤ i + n → HeavierBefore ms i → IsSomeAnd (find (λ j. get_or ms j false && eqb (leaf_weight ms j) d) (range_with_len i n)) (FirstLightest ms)
  lightest_from zero i past all = absurd (omega (arith, ahead i all))
  lightest_from (suc n) i past all =
      ⊎_elim
      (λ holds. rw holds (found i all holds))
      (λ fails. rw fails (lightest_from n (i + 1) (omega arith) (passed i all fails)))
      (cases_Bool (get_or ms i false && eqb (leaf_weight ms i) d))

  pub first_found : (o : Option ℕ) → option_map (λ i. i) o ≡ find (λ j. get_or ms j false && eqb (leaf_weight ms j) d) (range_with_len 0 (length ms)) → IsSomeAnd o (FirstLightest ms)
  first_found None e = subst (λ o. IsSomeAnd o (FirstLightest ms)) (sym e) (lightest_from (length ms) 0 (omega arith) (λ j before active. absurd (omega arith)))
  first_found (Some leaf) e = subst (λ o. IsSomeAnd o (FirstLightest ms)) (sym e) (lightest_from (length ms) 0 (omega arith) (λ j before active. absurd (omega arith)))

-- a first lightest leaf there is
pub some_first : (ms : List Bool) → LeastWeight (tree_of ms) ms (plan_weight ms) → (leaf : ℕ) × FirstLightest ms leaf
some_first ms least = taken _ (lightest_from ms (plan_weight ms) refl least (length ms) 0 (omega arith) (λ j before active. absurd (omega arith)))
  where
    taken : (o : Option ℕ) → IsSomeAnd o (FirstLightest ms) → (leaf : ℕ) × FirstLightest ms leaf
    taken None h = absurd h
    taken (Some leaf) h = (leaf, h)
