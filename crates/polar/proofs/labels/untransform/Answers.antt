use Rattle.std.proofs.Common.{◌≡◌, length, sym, ap, ◌∙◌, subst}
use Rattle.polar.specs.Shape.{balanced}
use Rattle.polar.specs.Words.{parity}
use Rattle.polar.specs.Labels.{label}
use Rattle.polar.specs.LabelLaws.{Labelled}
use Rattle.polar.proofs.Relation.{labelled_label}
use Rattle.polar.proofs.InPlace.{labelled_unlabelled, length_unlabelled, parity_labelled}
use Rattle.polar.proofs.labels.untransform.Goals as goal

pub returns : goal.returns
returns c =
    let e = c.args.bits.now in
    let b = c.pass.new.bits in
    let is = c.pass.ensures in
    let size : length b ≡ length e = ap length is ∙ length_unlabelled e in
    let back : label (balanced (length e)) b ≡ e = ap (label (balanced (length e))) is ∙ labelled_unlabelled e in
    record {
      value = is;
      labelled = λ some. subst (λ z. Labelled (length e) b z) back (labelled_label (length e) some b size);
      undone = back;
      parity = ap parity (sym back) ∙ ap (λ n. parity (label (balanced n) b)) (sym size) ∙ parity_labelled b;
    }
