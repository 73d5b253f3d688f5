use Rattle.std.proofs.Common.{nat_lt, length, None, sym, ap, ◌∙◌, rules}
use Rattle.polar.specs.declared.refusal.Refusal.TheVariants.{Output}
use Rattle.polar.specs.Refusals.{refused_if}
use Rattle.polar.proofs.rows.write_items.Goals as goal

pub returns : goal.returns
returns g c =
    let w = c.write_front.ensures.runs in
    let fits = ap (λ v. refused_if (nat_lt (length c.args.out.now) v.1) Output None) (sym c.items.view_is) ∙ search rules in
    (fits, (w.0, w.1 ∙ ap (λ v. v.0) c.items.view_is, w.2, w.3))
