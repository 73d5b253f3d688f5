use Rattle.std.proofs.Common.{length, sym, refl, ap, ◌∙◌}
use Rattle.polar.specs.Shape.{balanced}
use Rattle.polar.specs.Words.{parity}
use Rattle.polar.specs.Labels.{unlabel}
use Rattle.polar.proofs.Relation.{labelled_label, labelled_only}
use Rattle.polar.proofs.InPlace.{unlabelled_labelled, parity_labelled}
use Rattle.polar.proofs.labels.transform.Goals as goal

pub returns : goal.returns
returns c =
    let e = c.args.bits.now in
    let is = c.pass.ensures in
    record {
      value = is;
      labelled = λ some. rw is (labelled_label (length e) some e refl);
      alone = λ other is_label. labelled_only is_label ∙ sym is;
      undone = ap (unlabel (balanced (length e))) is ∙ unlabelled_labelled e;
      parity = ap parity is ∙ parity_labelled e;
    }
