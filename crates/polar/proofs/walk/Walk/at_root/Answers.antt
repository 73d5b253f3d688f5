use Rattle.std.proofs.Common.{◌∷◌, sym, ap, ◌∙◌, append-nil}
use Rattle.polar.specs.Shape.{balanced}
use Rattle.polar.specs.Preorder.{node_at, under}
use Rattle.polar.proofs.Walked.{nodes_balanced}
use Rattle.polar.proofs.walk.Walk.at_root.Goals as goal

pub returns : goal.returns
returns c =
    let n = c.args.len in
    rw c.new.ensures (ap (λ z. node_at n 0 0 ∷ z) (append-nil (under (balanced n) 0 0)) ∙ sym (nodes_balanced n c.requires.some))
