use Rattle.std.proofs.Common.{◌≡◌, false, replicate, ap, ◌∙◌, arith}
use Rattle.storage.proofs.Steps.{marks_refused, marks_follow, fills_exit, fills_behind}
use Rattle.storage.proofs.cursor.Cursor.marks.Goals as goal

pub returns-in_err-frozen : goal.returns-in_err-frozen
returns-in_err-frozen c =
    fills_exit _ c.from_residual.result c.field.new.self c.from_residual.ensures.1
    (marks_refused _ _ _ c.in_err-frozen.ensures.reads)

pub returns : goal.returns
returns c =
    let parts = c.split_at_mut-front.ensures in
    let filled : c.fill.new.self ≡ replicate c.in_ok-frozen.field-0 false = c.fill.ensures.after (λ y e. e) ∙ ap (λ n. replicate n false) parts.front_len in
    fills_behind c.fill.new.self c.later_runs.new.marks _ c.later_runs.result c.later_runs.new.self
    (marks_follow _ _ _ _ _ c.in_ok-frozen.ensures.reads filled (omega (arith, parts.back_len)))
    c.later_runs.ensures
