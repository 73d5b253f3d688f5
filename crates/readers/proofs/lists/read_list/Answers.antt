use Rattle.std.proofs.Common.{length, ap, ◌∙◌}
use Rattle.polar.specs.Plans.{marks_of}
use Rattle.readers.proofs.Listing.{pile_facts, posed_list, near_taken_out}
use Rattle.readers.proofs.lists.read_list.Goals as goal

pub invariant_of-question : goal.invariant_of-question
invariant_of-question g c = record { posed = rw c.marks-marks.ensures (posed_list g.K.Soft.kind g.K.Listed.unfit c.args.plan.now c.args.values.now c.in_ok-check_list.ensures.0) }

pub returns-clause-near : goal.returns-clause-near
returns-clause-near g c =
    let kind = g.K.Soft.kind in
    let reading = g.R.Reader.reading c.args.reader.now in
    let ms = marks_of c.args.plan.now in
    let taken = (pile_facts kind reading ms (length c.args.soft.now) (length c.args.bits.now) c.in_ok-check_pile.ensures.0).0 in
    let posed = posed_list kind g.K.Listed.unfit c.args.plan.now c.args.values.now c.in_ok-check_list.ensures.0 in
    near_taken_out kind reading (g.met.R.Reader.rules c.args.reader.now) ms c.args.values.now c.read.new.out c.args.out.now c.take_out.result c.take_out.new.word c.take_out.new.out taken posed (c.read.ensures ∙ ap (λ m. reading.answer m 0 c.args.values.now) c.marks-marks.ensures) c.take_out.ensures
