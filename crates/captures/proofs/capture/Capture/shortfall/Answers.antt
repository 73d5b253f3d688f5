use Rattle.std.proofs.Common.{◌≡◌, get_or, pos, ap, ◌∙◌, arith, w16, rules}
use Rattle.std.proofs.lemmas.Int.{to_z-of_z}
use Rattle.soft.specs.Counts.{counted, held}
use Rattle.soft.specs.Whole.{short_of}
use Rattle.polar.specs.Bytes.{bit}
use Rattle.captures.specs.Tops.{top_count}
use Rattle.captures.proofs.Contradictions.{shortfall_more}
use Rattle.captures.proofs.capture.Capture.shortfall.Goals as goal

pub loop-i-preserved : goal.loop-i-preserved
loop-i-preserved c =
    let word = c.args.word.now in
    let i = c.loop-i.i in
    let count = get_or c.counts-counts.result.now i (pos 0) in
    let more = shortfall_more c.counts-counts.result.now word i c.loop-i-test.true (search rules) top_count in
    let is : c.from.result ≡ counted count = c.from.ensures ∙ ap counted (to_z-of_z w16 count (search rules)) in
    let same : held c.from.result ≡ count = ap held is in
    let short = ap (λ v. short_of top_count v (bit (get_or word i 0))) same in
    (omega (arith, c.loop-i.invariant.0, more, c.shortfall-sum.ensures.value, short), omega (arith, c.loop-i.invariant.1, c.shortfall-sum.ensures.most))
