use Rattle.std.proofs.Common.{T, arith}
use Rattle.readers.specs.Rows.{all_read}
use Rattle.readers.proofs.Listing.{total_more, total_none}
use Rattle.readers.proofs.lists.sum_shortfalls.Goals as goal

pub shortfall-sum-requires : goal.shortfall-sum-requires
shortfall-sum-requires g c =
    let fits = λ (v : g.row.K.Denot). T (g.K.Soft.kind.fitting v 0) in
    all_read fits c.args.values.now c.loop-i.i _ c.loop-i-test.true c.index-values-i.is c.requires.fits

pub loop-i-preserved : goal.loop-i-preserved
loop-i-preserved g c =
    let kind = g.K.Soft.kind in
    let i = c.loop-i.i in
    let more = total_more kind c.args.values.now c.args.word.now i c.index-values-i.result c.loop-i-test.true (omega (arith, c.requires.same)) c.index-values-i.is in
    (omega (arith, c.loop-i.invariant.0, more, c.shortfall-sum.ensures.value), omega (arith, c.loop-i.invariant.1, c.shortfall-sum.ensures.most))

pub returns : goal.returns
returns g c =
    let kind = g.K.Soft.kind in
    let none = total_none kind c.args.values.now c.args.word.now c.loop-i.i c.loop-i-test.false in
    omega (arith, c.loop-i.invariant.0, none)
