use Rattle.std.proofs.Common.{◌≡◌, arith, ◌∙◌}
use Rattle.polar.proofs.InPlace.{labelled, combined}
use Rattle.polar.proofs.SmallNodes.{undoes_itself}
use Rattle.polar.proofs.labels.pass_eight.Goals as goal

pub returns-then-bits-le4-clause-back : goal.returns-then-bits-le4-clause-back
returns-then-bits-le4-clause-back c = c.pass_four.ensures ∙ undoes_itself c.args.bits.now (omega arith)

pub returns : goal.returns
returns c =
    let bits = c.args.bits.now in
    let forth : c.add_right.new.bits ≡ labelled bits =
    combined bits c.pass_four-2.new.bits c.pass_four-3.new.bits c.children-left.result.0 (omega arith) (omega arith)
    c.pass_four-2.ensures c.pass_four-3.ensures c.add_right.new.bits c.add_right.ensures in
    record { forth = forth; back = forth ∙ undoes_itself bits (omega arith) }
