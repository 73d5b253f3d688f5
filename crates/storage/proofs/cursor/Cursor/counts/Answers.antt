use Rattle.std.proofs.Common.{[], ◌∷◌, ◌++◌, length, take, ap, ◌∙◌, arith, w16, SFits, rules}
use Rattle.std.proofs.lemmas.List.{take_all, take_more_set}
use Rattle.std.proofs.lemmas.Int.{to_z-of_z}
use Rattle.storage.specs.Contents.{top_count}
use Rattle.storage.specs.Reading.{coded_count}
use Rattle.storage.proofs.Steps.{pending_more, pending_refused, pending_all, counts_more, counts_refused, counts_all, fills_exit}
use Rattle.storage.proofs.cursor.Cursor.counts.Goals as goal

pub returns-in_err-field : goal.returns-in_err-field
returns-in_err-field c =
    fills_exit _ c.from_residual.result c.field.new.self c.from_residual.ensures.1
    (pending_refused _ _ _ _ c.loop-count.invariant (counts_refused top_count (length c.args.counts.now) c.loop-count.count-index _ _ c.loop-count-test.true (rw c.from.ensures at c.in_err-field.ensures.reads)))

pub loop-count-preserved : goal.loop-count-preserved
loop-count-preserved c =
    let fits : SFits w16 c.decoded.result = search rules in
    let is = to_z-of_z w16 _ fits ∙ c.decoded.ensures in
    let more = take_more_set c.loop-count.counts c.loop-count.count-index _ (omega (arith, c.loop-count.auto.counts)) ∙ ap (λ v. take c.loop-count.count-index c.loop-count.counts ++ v ∷ []) is in
    pending_more _ (coded_count c.in_ok-field.field-0 ∷ []) _ _ _ _ more c.loop-count.invariant (counts_more top_count (length c.args.counts.now) c.loop-count.count-index _ _ c.loop-count-test.true (rw c.from.ensures at c.in_ok-field.ensures.reads))

pub returns : goal.returns
returns c =
    pending_all _ _ _ _ _ _ (take_all c.loop-count.count-index c.loop-count.counts (omega (arith, c.loop-count.auto.counts))) c.loop-count.invariant
    (counts_all top_count (length c.args.counts.now) c.loop-count.count-index _ _ c.loop-count-test.false)
