use Rattle.std.proofs.Common.{◌≡◌, length, set, sym, ap, ◌∙◌}
use Rattle.std.proofs.lemmas.Bool.{eqb-true}
use Rattle.readers.specs.LeafRules.{stored_active, stored_frozen}
use Rattle.readers.proofs.leaf.LeafReader.read.Goals as goal
use Rattle.readers.proofs.leaf.LeafReader.read.Goals.{then-question-offset0, else-question-offset0}

pub returns : goal.returns
returns g c =
    let kind = g.K.Soft.kind in
    let rules = g.met.K.Soft.rules in
    let posed = c.args.question.now.posed in
    let out = c.args.out.now in
    let one : length out ≡ 1 = c.requires.out_room ∙ eqb-true _ 1 c.requires.taken in
    elim c.if-question-offset0.branch [
      | then-question-offset0 w ↦ ap (set out 0) (w.out-is ∙ w.decide.ensures ∙ ap kind.decided (sym w.index-question-0.is)) ∙ stored_active kind rules _ _ out _ one w.if-question-offset0.true posed.same w.index-question-0.is
      | else-question-offset0 w ↦ ap (set out 0) (w.out-is ∙ w.if-question-offset0.false) ∙ stored_frozen kind rules _ _ out one posed.some w.if-question-offset0.false posed.same
    ]
