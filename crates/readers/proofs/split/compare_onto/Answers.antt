use Rattle.std.proofs.Common.{◌<◌, T, length, set, sym, ap, ◌∙◌, arith}
use Rattle.polar.proofs.Merges.{merge_nil}
use Rattle.readers.specs.Rows.{all_read, merge_step, merge_read}
use Rattle.readers.proofs.split.compare_onto.Goals as goal

pub loop-i-init : goal.loop-i-init
loop-i-init g c = sym (merge_nil _ _)

pub compare-requires : goal.compare-requires
compare-requires g c =
    let kind = g.K.Soft.kind in
    let i = c.loop-i.i in
    let within : i < length c.args.values.now = omega (arith, c.requires.paired) in
    let fits = λ (v : g.row.K.Denot). T (kind.fitting v c.args.turns) in
    let value = merge_read kind.compared c.args.values.now c.args.partners.now _ i _ c.loop-i.invariant c.index-values-i.is in (
      c.requires.few,
      (
        all_read fits c.args.values.now i _ within value c.requires.fits.0,
        all_read fits c.args.partners.now i _ c.loop-i-test.true c.index-partners-i.is c.requires.fits.1,
      ),
    )

pub loop-i-preserved : goal.loop-i-preserved
loop-i-preserved g c =
    let compared = g.K.Soft.kind.compared in
    let i = c.loop-i.i in
    let within : i < length c.args.values.now = omega (arith, c.requires.paired) in
    let value = merge_read compared c.args.values.now c.args.partners.now _ i _ c.loop-i.invariant c.index-values-i.is in
    let step = merge_step compared c.args.values.now c.args.partners.now i _ _ within c.loop-i-test.true value c.index-partners-i.is in
    ap (λ l. set l i c.compare.result) c.loop-i.invariant ∙ ap (set _ i) c.compare.ensures ∙ step
