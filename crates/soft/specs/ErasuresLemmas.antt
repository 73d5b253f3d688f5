-- Erasures keep the rules of a soft kind, and their score is fair. Assumes nothing.
use Rattle.std.specs.Prelude.{◌≡◌, ℕ, ◌+◌, ◌*◌, ◌^◌, ◌<◌, ◌≤◌, Bool}
use Rattle.std.proofs.Common.{arith, pow-add, pow_mono}
use Rattle.std.proofs.lemmas.Int.{ints}
use Rattle.polar.specs.Words.{xor}
use Rattle.soft.specs.Kind.{Rules, AllFair}
use Rattle.soft.specs.Erasures.{moved, summed, agreed, erasure_decided, erasure_shortfall, erasure_kind, erasure_score}
use Rattle.soft.specs.declared.erasure.Erasure.{Erasure}

pub power_most : (r : ℕ) → r ≤ 12 → 2 ^ r ≤ 4096
power_most r small = pow_mono small

summed_short : (v w : Erasure) (b c : Bool) (r : ℕ) → r ≤ 12 → erasure_shortfall (summed v w) (xor b c) r ≤ erasure_shortfall v b r + erasure_shortfall w c r
summed_short v w b c r small = let most = power_most r small in grind arith

agreed_short : (v w : Erasure) (b c : Bool) (r : ℕ) → r ≤ 11 → erasure_shortfall (agreed (moved v (xor b c)) w) c (r + 1) ≤ erasure_shortfall v b r + erasure_shortfall w c r
agreed_short v w b c r small =
    let most : 2 ^ (r + 1) ≤ 4096 = power_most (r + 1) (omega arith) in
    let twice : 2 ^ (r + 1) ≡ 2 ^ r + 2 ^ r = omega (arith, pow-add 2 r 1) in
    grind arith

decided_sure : (v : Erasure) (b : Bool) (r : ℕ) → r ≤ 12 → erasure_shortfall v b r < 1 * 2 ^ r → erasure_decided v ≡ b
decided_sure v b r small h = let most = power_most r small in grind arith

pub erasure_rules : Rules erasure_kind
erasure_rules = record {
  unit_least = omega arith;
  unit_most = omega arith;
  compared_fits = λ v w r small p q. tt;
  compared_short = λ v w b c r small p q. summed_short v w b c r small;
  joined_fits = λ v w b r small p q. tt;
  joined_short = λ v w b c r small p q. agreed_short v w b c r small;
  decided_sure = λ v b r small p. decided_sure v b r small;
}

pub erasure_fair : AllFair erasure_kind erasure_score
erasure_fair v b r small p =
    let most = power_most r small in
    record { apart = grind (arith, ints); within = grind (arith, ints); favours = grind (arith, ints) }
