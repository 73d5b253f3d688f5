use Rattle.std.proofs.Common.{◌≡◌, ◌++◌, take, drop, ◌+◌, ◌∷◌, sym, ap, ◌∙◌, arith, rules, tests}
use lib.Seq.{append_snoc}
use Rattle.std.proofs.lemmas.List.{take_more_set}
use Rattle.polar.specs.Bytes.{bits}
use Rattle.polar.specs.Marks.{spread}
use Rattle.polar.proofs.Active.{spread_at_active, spread_at_frozen}
use Rattle.polar.proofs.code.put_leaf_labels.Goals as goal
use Rattle.polar.proofs.code.put_leaf_labels.Goals.{then-mark, else-mark}

pub loop-i-preserved : goal.loop-i-preserved
loop-i-preserved c =
    let i = c.loop-i.i in
    let marks = c.args.marks.now in
    let label = c.if-mark.labels in
    let later = spread (drop (i + 1) marks) (bits c.if-mark.rest.rest.now) in
    let step : label ∷ later ≡ spread (drop i marks) (bits c.loop-i.rest.rest.now) =
    elim c.if-mark.branch [
      | then-mark w ↦ rw (w.labels-is, w.rest-is) (spread_at_active marks i c.loop-i-test.true w.next.result c.loop-i.rest w.next.new.self w.is_some_and.result w.if-mark.true w.next.ensures.steps (search (rules, tests)))
      | else-mark w ↦ rw (w.labels-is, w.if-mark.false, w.rest-is) (sym (spread_at_frozen marks i c.loop-i-test.true (bits c.loop-i.rest.rest.now) w.if-mark.false))
    ] in
    ap (λ z. z ++ later) (take_more_set c.loop-i.labels i label (omega (arith, c.loop-i.auto.labels)))
    ∙ append_snoc (take i c.loop-i.labels) label later
    ∙ ap (λ z. take i c.loop-i.labels ++ z) step ∙ c.loop-i.invariant
