use Rattle.std.proofs.Common.{◌≡◌, ℕ, suc, ◌+◌, ◌-◌, ◌/◌, ◌%◌, ◌^◌, ◌<◌, ◌≤◌, Bool, true, false, eqb, List, ◌∷◌, length, get_or, drop, set, sym, ap, ◌∙◌, pow-suc, arith}
use native.Mathlib.Nat.{div-div-eq-div-mul}
use Rattle.std.proofs.lemmas.List.{drop_more, drop-set}
use Rattle.polar.specs.Words.{trues}
use Rattle.polar.specs.Marks.{spread}
use Rattle.scored_readers.specs.ExhaustiveReading.{digits}
use Rattle.scored_readers.proofs.exhaustive.put_leaves.Goals as goal
use Rattle.scored_readers.proofs.exhaustive.put_leaves.Goals.{then-marks-i, else-marks-i}

-- one leaf more, before those from i on
module _ (marks labels : List Bool) (n i rest : ℕ) (some : 0 < i) (within : i ≤ length marks) (same : length labels ≡ length marks)
    (before : rest ≡ n / 2 ^ trues (drop i marks)) (written : drop i labels ≡ spread (drop i marks) (digits (trues (drop i marks)) n)) where
  place : i - 1 + 1 ≡ i
  place = omega arith

  marks_from : (m : Bool) → get_or marks (i - 1) false ≡ m → drop (i - 1) marks ≡ m ∷ drop i marks
  marks_from m is = drop_more marks (i - 1) false (omega arith) ∙ rw (is, place)

  labels_from : (b : Bool) → drop (i - 1) (set labels (i - 1) b) ≡ b ∷ drop i labels
  labels_from b = drop-set labels (i - 1) b (omega arith) ∙ rw place

  abbrev Written : ℕ → Bool → Type 0
  Written rest' b =
      (rest' ≡ n / 2 ^ trues (drop (i - 1) marks))
      × (drop (i - 1) (set labels (i - 1) b) ≡ spread (drop (i - 1) marks) (digits (trues (drop (i - 1) marks)) n))

  active_more : (rest' : ℕ) (b : Bool) → get_or marks (i - 1) false ≡ true → rest' ≡ rest / 2 → b ≡ eqb (rest % 2) 1 → Written rest' b
  active_more rest' b is rest_is bit_is =
      let k = trues (drop i marks) in
      let half : rest' ≡ n / 2 ^ suc k = rest_is ∙ ap (λ r. r / 2) before ∙ div-div-eq-div-mul n (2 ^ k) 2 ∙ ap (λ p. n / p) (sym (pow-suc 2 k)) in
      rw (marks_from true is, labels_from b) (half, rw (bit_is, before, written))

  frozen_more : (rest' : ℕ) (b : Bool) → get_or marks (i - 1) false ≡ false → rest' ≡ rest → b ≡ false → Written rest' b
  frozen_more rest' b is rest_is bit_is = rw (marks_from false is, labels_from b) (rest_is ∙ before, rw (bit_is, written))

pub loop-i-preserved : goal.loop-i-preserved
loop-i-preserved c =
    let inv = c.loop-i.invariant in
    let same = c.loop-i.auto.labels ∙ c.requires in
    elim c.if-marks-i.branch [
      | then-marks-i w ↦ active_more _ _ _ _ _ c.loop-i-test.true c.loop-i.auto.i same inv.0 inv.1 _ _ w.if-marks-i.true w.rest-is w.bit-is
      | else-marks-i w ↦ frozen_more _ _ _ _ _ c.loop-i-test.true c.loop-i.auto.i same inv.0 inv.1 _ _ w.if-marks-i.false w.rest-is w.bit-is
    ]
