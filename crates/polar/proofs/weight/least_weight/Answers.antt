use Rattle.std.proofs.Common.{◌≡◌, ◌≤◌, Bool, List, [], ◌∷◌, length, sym, ap, ◌∙◌, subst}
use Rattle.std.specs.List.{All}
use Rattle.std.proofs.lemmas.List.Elements.{All-head, All-tail}
use Rattle.polar.specs.Shape.{balanced}
use Rattle.polar.specs.Marks.{lesser}
use Rattle.polar.specs.Walks.{current, remaining, Begun}
use Rattle.polar.specs.Lightest.{node_weight, some_weight, lightest, Within}
use Rattle.polar.specs.declared.walk.Walk.{Walk}
use Rattle.polar.proofs.Weighing.{lesser_assoc, lesser_none, lesser_weights, lightest_weight, nodes_within}
use Rattle.polar.proofs.weight.least_weight.Goals as goal

-- a walk over marks that stands on the root: each of its nodes lies within the block and has few turns
all_within : (marks : List Bool) (walk : Walk) → 1 ≤ length marks → length marks ≤ 4096 → Begun (length marks) walk
    → All (Within (length marks)) (current walk ∷ remaining walk)
all_within marks walk some short is =
    let n = length marks in
    subst (All (Within n)) (sym is) (nodes_within n some short)

pub leaf_weight-least-requires : goal.leaf_weight-least-requires
leaf_weight-least-requires c =
    let n = length c.args.marks.now in
    let walk = c.at_root-walk.result in
    let all = all_within c.args.marks.now walk c.requires.some c.requires.short c.at_root-walk.ensures in
    rw c.node.ensures.value (All-head (Within n) (current walk) (remaining walk) all)

pub loop-node-init : goal.loop-node-init
loop-node-init c =
    let marks = c.args.marks.now in
    let n = length marks in
    let walk = c.at_root-walk.result in
    let same : c.into_iter-node-iterator.result ≡ walk = c.into_iter-node-iterator.ensures.into_iter_gives in
    let root = c.leaf_weight-least.ensures ∙ ap (λ k. some_weight (node_weight marks k)) c.node.ensures.value in
    let all = all_within marks walk c.requires.some c.requires.short c.at_root-walk.ensures in
    rw same ((node_weight marks (current walk), root, ap (lightest marks) c.at_root-walk.ensures), All-tail (Within n) (current walk) (remaining walk) all)

pub loop-node-preserved : goal.loop-node-preserved
loop-node-preserved c =
    let marks = c.args.marks.now in
    let n = length marks in
    let before = c.loop-node.invariant.0 in
    let w = before.0 in
    let v = node_weight marks c.in-Some.node in
    let left = remaining c.next.new.self in
    let moved : remaining c.loop-node.node-iterator ≡ c.in-Some.node ∷ left = c.in-Some.ensures.steps in
    let least : c.lighter-least.result ≡ some_weight (lesser w v) = c.lighter-least.ensures ∙ rw (before.1, c.leaf_weight.ensures) (lesser_weights w v) in
    let same = rw moved at before.2 in
    let all = subst (All (Within n)) moved c.loop-node.invariant.1 in
    ((lesser w v, least, lesser_assoc w v (lightest marks left) ∙ same), All-tail (Within n) c.in-Some.node left all)

pub returns : goal.returns
returns c =
    let marks = c.args.marks.now in
    let before = c.loop-node.invariant.0 in
    let none : remaining c.loop-node.node-iterator ≡ [] = c.in-None.ensures.steps.0 in
    let same = rw none at before.2 in
    before.1 ∙ ap some_weight (sym (lesser_none before.0) ∙ same ∙ lightest_weight marks (balanced (length marks)) 0)
