use Rattle.std.proofs.Common.{sym, ◌∙◌}
use Rattle.polar.specs.Preorder.{one_more}
use Rattle.polar.proofs.Walked.{inner_by, leaf_by, todo_leaf, right_ahead_inner}
use Rattle.polar.proofs.frame.Frame.right_ahead.Goals as goal

pub returns-then-eq : goal.returns-then-eq
returns-then-eq c =
    let f = c.args.self.now in
    rw c.eq-then-eq.ensures (right_ahead_inner f (inner_by f.len c.kind.result c.kind.ensures (sym c.eq.ensures ∙ c.if-eq.true)))

pub returns-else-eq : goal.returns-else-eq
returns-else-eq c =
    let f = c.args.self.now in
    rw c.if-eq.false (λ t. todo_leaf t (one_more f) (leaf_by f.len c.kind.result c.kind.ensures (sym c.eq.ensures ∙ c.if-eq.false)))
