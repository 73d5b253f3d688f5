use Rattle.std.proofs.Common.{take, true, false, rules}
use Rattle.std.proofs.lemmas.Iterator.{YieldsList-from_slice, cases_from_any}
use Rattle.polar.specs.Preorder.{RightAhead}
use Rattle.polar.proofs.Walked.{more_here, more_beside}
use Rattle.polar.proofs.walk.Walk.has_next.Goals as goal

pub returns-then-unfinished : goal.returns-then-unfinished
returns-then-unfinished c =
    let walk = c.args.self.now in
    rw c.if-unfinished.true (more_here walk.frames walk.depth c.if-unfinished.ensures)

pub returns-else-unfinished : goal.returns-else-unfinished
returns-else-unfinished c =
    let walk = c.args.self.now in
    more_beside walk.frames walk.depth c.any.result c.if-unfinished.ensures
    (cases_from_any _ _ _ (λ f. RightAhead f true) (λ f. RightAhead f false) c.any.ensures.ran
    (YieldsList-from_slice (take walk.depth walk.frames) cc) (λ x q k. search rules) (λ x q k. search rules))
