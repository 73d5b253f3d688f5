-- A plan's weight is the smallest 2 ^ turns over its active leaves. Assumes nothing.
use Rattle.std.proofs.Common.{◌≡◌, ℕ, zero, suc, ◌+◌, ◌-◌, ◌*◌, ◌^◌, ◌<◌, ◌≤◌, Bool, true, false, ◌⊎◌, List, [], ◌∷◌, get_or, take, drop, sym, refl, ap, ◌∙◌, subst, inl, inr, ⊎_elim, arith}
use Rattle.std.proofs.lemmas.List.{get_or-take, get_or-drop}
use Rattle.std.proofs.lemmas.Bool.{cases_lt}
use Rattle.std.proofs.lemmas.Bool.Decides.{nat_tests}
use Rattle.polar.specs.Shape.{Shape, leaf, node, leaves, turns}
use Rattle.polar.specs.Marks.{lesser, weight}
use Rattle.polar.proofs.Distance.{lesser_left, lesser_right, turns_left, turns_right}

-- no active leaf weighs less
pub weight_bound : (s : Shape) (ms : List Bool) (i : ℕ) → i < leaves s → get_or ms i false ≡ true → (0 < weight s ms) × (weight s ms ≤ 2 ^ get_or (turns s) i 0)
weight_bound leaf [] i h a = absurd (grind arith)
weight_bound leaf (true ∷ ms) zero h a = (omega arith, omega arith)
weight_bound leaf (true ∷ ms) (suc i) h a = absurd (omega arith)
weight_bound leaf (false ∷ ms) zero h a = absurd (grind arith)
weight_bound leaf (false ∷ ms) (suc i) h a = absurd (omega arith)
weight_bound (node l r) ms i h a =
    let n = leaves l in
    let v = weight l (take n ms) in
    let w = weight r (drop n ms) in
    ⊎_elim
    (λ left.
    let below = weight_bound l (take n ms) i left (get_or-take n ms i false left ∙ a) in
    let least = lesser_left v (2 * w) below.0 in
    (least.0, subst (λ t. lesser v (2 * w) ≤ 2 ^ t) (sym (turns_left l r i left)) (omega arith)))
    (λ right.
    let place : n + (i - n) ≡ i = omega arith in
    let below = weight_bound r (drop n ms) (i - n) (omega arith) (get_or-drop n ms (i - n) false ∙ ap (λ k. get_or ms k false) place ∙ a) in
    let least = lesser_right v (2 * w) (omega arith) in
    (least.0, subst (λ t. lesser v (2 * w) ≤ 2 ^ t) (sym (turns_right l r i right h)) (omega arith)))
    (cases_lt i n)

-- an active leaf of that weight
pub record Lightest (s : Shape) (ms : List Bool) : Type 0 where
  pub at : ℕ
  pub within : at < leaves s
  pub active : get_or ms at false ≡ true
  pub least : weight s ms ≡ 2 ^ get_or (turns s) at 0

lesser_cases : (v w : ℕ) → 0 < lesser v w → ((0 < v) × (lesser v w ≡ v)) ⊎ ((0 < w) × (lesser v w ≡ w))
lesser_cases v w h =
    ⊎_elim
    (λ none. inr (grind (arith, nat_tests), grind (arith, nat_tests)))
    (λ some.
    ⊎_elim
    (λ none. inl (some, grind (arith, nat_tests)))
    (λ both. ⊎_elim (λ less. inl (some, grind (arith, nat_tests))) (λ more. inr (both, grind (arith, nat_tests))) (cases_lt v w))
    (cases_lt w 1))
    (cases_lt v 1)

pub weight_attained : (s : Shape) (ms : List Bool) → 0 < weight s ms → Lightest s ms
weight_attained leaf [] h = absurd (omega arith)
weight_attained leaf (true ∷ ms) h = record { at = 0; within = omega arith; active = refl; least = refl }
weight_attained leaf (false ∷ ms) h = absurd (omega arith)
weight_attained (node l r) ms h =
    let n = leaves l in
    let v = weight l (take n ms) in
    let w = weight r (drop n ms) in
    ⊎_elim
    (λ left.
    let below = weight_attained l (take n ms) left.0 in
    let i = below.at in
    record {
      at = i;
      within = omega (arith, below.within);
      active = sym (get_or-take n ms i false below.within) ∙ below.active;
      least = left.1 ∙ below.least ∙ ap (λ t. 2 ^ t) (sym (turns_left l r i below.within));
    })
    (λ right.
    let below = weight_attained r (drop n ms) (omega arith) in
    let i = below.at in
    let place : n + i - n ≡ i = omega arith in
    let twice : 2 * w ≡ 2 ^ suc (get_or (turns r) i 0) = omega (arith, below.least) in
    let count : get_or (turns (node l r)) (n + i) 0 ≡ suc (get_or (turns r) i 0) =
    turns_right l r (n + i) (omega arith) (omega (arith, below.within)) ∙ ap (λ k. suc (get_or (turns r) k 0)) place in
    record {
      at = n + i;
      within = omega (arith, below.within);
      active = sym (get_or-drop n ms i false) ∙ below.active;
      least = right.1 ∙ twice ∙ ap (λ t. 2 ^ t) (sym count);
    })
    (lesser_cases v (2 * w) h)
