-- Facts of a node as it is given to a reader. Assumes nothing.
use Rattle.std.specs.Prelude.{◌≡◌, ℕ, ◌+◌, ◌*◌, ◌/◌, ◌^◌, ◌<◌, ◌≤◌, Bool, List, length}
use Rattle.std.proofs.Common.{sym, ap, ◌∙◌, ⊎_elim, arith, mul-le-mul_right, mul_assoc, mul_comm, pow-add, pow_mono}
use Rattle.std.proofs.lemmas.Bool.{cases_lt}
use Rattle.soft.specs.Kind.{Kind}
use Rattle.readers.specs.Readings.{Posed}

-- a node that is short enough has few turns
pub turns_most : (n turns : ℕ) → 1 ≤ n → n * 2 ^ turns ≤ 4096 → turns ≤ 12
turns_most n turns some short =
    let over : 12 < turns → ⊥ = λ more. omega (arith, pow_mono {i = 13} more, mul-le-mul_right (2 ^ turns) some) in
    ⊎_elim (λ (more : 12 < turns). absurd (over more)) (λ few. few) (cases_lt 12 turns)

-- and one fewer where it has children
pub few_turns : (n turns : ℕ) → 2 ≤ n → n * 2 ^ turns ≤ 4096 → turns ≤ 11
few_turns n turns two short =
    let most : 1 * 2 ^ (turns + 1) ≤ 4096 = omega (arith, pow-add 2 turns 1, mul-le-mul_right (2 ^ turns) two) in
    omega (arith, turns_most 1 (turns + 1) (omega arith) most)

-- both of a node as it is given to a reader
module _ {K : Type 0} {kind : Kind K} {marks : List Bool} {turns : ℕ} {values : List K} (posed : Posed kind marks turns values) where
  pub posed_turns : turns ≤ 12
  posed_turns = turns_most (length marks) turns posed.some posed.short

  pub posed_few : 2 ≤ length marks → turns ≤ 11
  posed_few two = few_turns (length marks) turns two posed.short

-- the right child is one turn further and at most half as long
pub right_short : (n turns : ℕ) → n * 2 ^ turns ≤ 4096 → n / 2 * 2 ^ (turns + 1) ≤ 4096
right_short n turns short =
    let half : n / 2 * 2 ≤ n = omega arith in
    let moved : n / 2 * 2 * 2 ^ turns ≡ n / 2 * 2 ^ (turns + 1) = mul_assoc (n / 2) 2 (2 ^ turns) ∙ ap (λ k. n / 2 * k) (mul_comm 2 (2 ^ turns) ∙ sym (pow-add 2 turns 1)) in
    omega (arith, moved, mul-le-mul_right (2 ^ turns) half)
