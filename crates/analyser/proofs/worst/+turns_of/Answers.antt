use Rattle.std.proofs.Common.{◌≡◌, ◌-◌, ◌/◌, get_or, sym, ap, ◌∙◌, arith}
use Rattle.polar.specs.Shape.{balanced, turns}
use Rattle.analyser.proofs.Turns.{under_left, under_right, at_leaf}
use Rattle.analyser.proofs.worst.+turns_of.Goals as goal

pub returns-then-len-lt2-clause-value : goal.returns-then-len-lt2-clause-value
returns-then-len-lt2-clause-value t c = sym (at_leaf c.args.len c.args.place (omega arith) c.requires)

pub returns-then-place-left-clause-value : goal.returns-then-place-left-clause-value
returns-then-place-left-clause-value t c =
    let n = c.args.len in
    let i = c.args.place in
    let left : c.children-left.result.0 ≡ n - n / 2 = omega arith in
    c.turns_of.ensures.value ∙ ap (λ k. get_or (turns (balanced k)) i 0) left ∙ sym (under_left n i (omega arith) (omega arith))

pub returns-else-place-left-clause-value : goal.returns-else-place-left-clause-value
returns-else-place-left-clause-value t c =
    let n = c.args.len in
    let i = c.args.place in
    let left : c.children-left.result.0 ≡ n - n / 2 = omega arith in
    let right : c.children-left.result.1 ≡ n / 2 = c.children-left.ensures.right in
    let same = under_right n i (omega arith) (omega arith) c.requires in
    let moved = ap (λ k. get_or (turns (balanced k)) (i - c.children-left.result.0) 0) right in
    let from = ap (λ k. get_or (turns (balanced (n / 2))) (i - k) 0) left in
    omega (arith, c.turns_of-else-place-left.ensures.value, moved, from, same)
