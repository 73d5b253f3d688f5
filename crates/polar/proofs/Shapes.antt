-- The laws of the balanced tree. Assumes nothing.
use Rattle.std.proofs.Common.{◌≡◌, ℕ, zero, suc, ◌-◌, ◌/◌, ◌^◌, ◌<◌, ◌≤◌, map, length, sym, refl, ap, ◌∙◌, subst, ⊎_elim, arith, length-append, pow_mono}
use lib.ListN.{length-map}
use Rattle.std.proofs.lemmas.Bool.{lt-ltb, le-ltb, cases_lt}
use Rattle.polar.specs.Shape.{Shape, leaf, node, leaves, grown, balanced, turns, LeftHeavy}

grown_small : (fuel n : ℕ) → n < 2 → grown fuel n ≡ leaf
unfolding grown
grown_small zero n h = refl
grown_small (suc fuel) n h = rw (lt-ltb n 2 h, grown)

grown_large : (fuel n : ℕ) → 2 ≤ n → grown (suc fuel) n ≡ node (grown fuel (n - n / 2)) (grown fuel (n / 2))
unfolding grown
grown_large fuel n h = rw (le-ltb n 2 h, grown)

-- more fuel than n changes nothing
grown_same : (j k n : ℕ) → n ≤ j → n ≤ k → grown j n ≡ grown k n
grown_same zero k n p q = grown_small zero n (omega arith) ∙ sym (grown_small k n (omega arith))
grown_same (suc j) zero n p q = grown_small (suc j) n (omega arith) ∙ sym (grown_small zero n (omega arith))
grown_same (suc j) (suc k) n p q =
    ⊎_elim
    (λ h. grown_small (suc j) n h ∙ sym (grown_small (suc k) n h))
    (λ h.
    let left = grown_same j k (n - n / 2) (omega arith) (omega arith) in
    let right = grown_same j k (n / 2) (omega arith) (omega arith) in
    grown_large j n h ∙ rw (left, right) (sym (grown_large k n h)))
    (cases_lt n 2)

pub balanced_leaf : (n : ℕ) → n < 2 → balanced n ≡ leaf
unfolding balanced
balanced_leaf n h = grown_small n n h

pub balanced_one : balanced 1 ≡ leaf
balanced_one = balanced_leaf 1 (omega arith)

pub balanced_node : (n : ℕ) → 2 ≤ n → balanced n ≡ node (balanced (n - n / 2)) (balanced (n / 2))
unfolding balanced
balanced_node n h =
    let fuel = n - 1 in
    let left = grown_same fuel (n - n / 2) (n - n / 2) (omega arith) (omega arith) in
    let right = grown_same fuel (n / 2) (n / 2) (omega arith) (omega arith) in
    let more : n ≡ suc fuel = omega arith in
    ap (λ k. grown k n) more ∙ grown_large fuel n h ∙ rw (left, right)

-- what holds of length 1, and of a length if it holds of its two halves, holds of each length
halves_by : (P : ℕ → Type 0) → P 1 → ((n : ℕ) → 2 ≤ n → P (n - n / 2) → P (n / 2) → P n)
    → (fuel n : ℕ) → n ≤ fuel → 1 ≤ n → P n
halves_by P one step zero n p q = absurd (omega arith)
halves_by P one step (suc fuel) n p q =
    ⊎_elim
    (λ h. let is : 1 ≡ n = omega arith in subst P is one)
    (λ h. step n h (halves_by P one step fuel (n - n / 2) (omega arith) (omega arith)) (halves_by P one step fuel (n / 2) (omega arith) (omega arith)))
    (cases_lt n 2)

pub halves : (P : ℕ → Type 0) → P 1 → ((n : ℕ) → 2 ≤ n → P (n - n / 2) → P (n / 2) → P n) → (n : ℕ) → 1 ≤ n → P n
halves P one step n h = halves_by P one step n n (omega arith) h

pub leaves_balanced : (n : ℕ) → 1 ≤ n → leaves (balanced n) ≡ n
leaves_balanced =
    halves (λ n. leaves (balanced n) ≡ n)
    (ap leaves balanced_one)
    (λ n h left right. ap leaves (balanced_node n h) ∙ rw (left, right) (omega arith))

pub left_heavy_balanced : (n : ℕ) → 1 ≤ n → LeftHeavy (balanced n)
left_heavy_balanced =
    halves (λ n. LeftHeavy (balanced n))
    (rw balanced_one tt)
    (λ n h left right.
    rw (balanced_node n h)
    (rw (leaves_balanced (n - n / 2) (omega arith), leaves_balanced (n / 2) (omega arith)) (omega arith), left, right))

pub leaves_pos : (s : Shape) → 1 ≤ leaves s
leaves_pos leaf = omega arith
leaves_pos (node l r) = omega (arith, leaves_pos l, leaves_pos r)

pub length_turns : (s : Shape) → length (turns s) ≡ leaves s
length_turns leaf = refl
length_turns (node l r) =
    length-append (turns l) (map suc (turns r)) ∙ rw (length-map, length_turns l, length_turns r)

-- 2 to the turns within the longest block
pub few_turns : (t : ℕ) → 2 ^ t ≤ 4096 → t ≤ 12
few_turns t h = ⊎_elim (λ few. omega arith) (λ many. let large : 2 ^ 13 ≤ 2 ^ t = pow_mono many in absurd (omega arith)) (cases_lt t 13)
