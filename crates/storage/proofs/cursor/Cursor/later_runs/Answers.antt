use Rattle.std.proofs.Common.{◌≡◌, ◌+◌, ◌-◌, ◌++◌, length, take, drop, replicate, sym, ap, ◌∙◌, arith, length-drop}
use lib.ListN.{length-replicate}
use Rattle.std.proofs.lemmas.List.{take_all, length-take-le}
use Rattle.std.proofs.lemmas.Slice.{take-put_mid}
use Rattle.storage.specs.Cursors.{rest}
use Rattle.storage.specs.Reading.{field_at}
use Rattle.storage.proofs.Steps.{pending_more, pending_refused, pending_all, runs_next, runs_refused, runs_all, fills_exit}
use Rattle.storage.proofs.cursor.Cursor.later_runs.Goals as goal

pub returns-in_err-run : goal.returns-in_err-run
returns-in_err-run c =
    let inv = c.loop-from.invariant.1 in
    let from = c.loop-from.from in
    let d = c.loop-from.self in
    let read = ap (λ n. field_at 1 (n - from) d.at (rest d)) (sym c.loop-from.auto.marks) ∙ c.in_err-run.ensures.reads in
    fills_exit _ c.from_residual.result c.field.new.self c.from_residual.ensures.1
    (pending_refused _ _ _ _ inv.2 (runs_refused _ inv.0 (length c.args.marks.now - from) _ _ (omega arith) inv.1 read))

pub loop-from-preserved : goal.loop-from-preserved
loop-from-preserved c =
    let inv = c.loop-from.invariant.1 in
    let from = c.loop-from.from in
    let ms = c.loop-from.marks in
    let d = c.loop-from.self in
    let run = c.in_ok-run.field-0 in
    let within = c.in_ok-run.ensures.within in
    let read = ap (λ n. field_at 1 (n - from) d.at (rest d)) (sym c.loop-from.auto.marks) ∙ c.in_ok-run.ensures.reads in
    let long : length (take (from + run - from) (drop from ms)) ≡ run =
    length-take-le (from + run - from) (drop from ms) (simp length-drop (omega (arith, within.1))) ∙ (let e : from + run - from ≡ run = omega arith in e) in
    let filled = c.fill.ensures.after (λ y e. e) ∙ ap (λ n. replicate n c.loop-from.mark) long in
    let front = take-put_mid from (from + run - from) ms c.fill.new.self (from + run) (omega (arith, ap length filled, length-replicate run c.loop-from.mark)) (omega (arith, within.1)) ∙ ap (λ l. take from ms ++ l) filled in (
      omega (arith, within.1, c.loop-from.auto.marks),
      (inv.0 - 1, omega (arith, inv.1, within.0), pending_more _ _ _ _ _ _ front inv.2 (runs_next _ inv.0 (length c.args.marks.now) from _ _ (omega arith) inv.1 read)),
    )

pub returns : goal.returns
returns c =
    let inv = c.loop-from.invariant.1 in
    pending_all _ _ _ _ _ _ (take_all c.loop-from.from c.loop-from.marks c.loop-from-test.false) inv.2
    (runs_all inv.0 _ (length c.args.marks.now - c.loop-from.from) _ _ (omega arith))
