use Rattle.std.proofs.Common.{◌≡◌, ◌+◌, ◌<◌, true, false, length, get_or, take, sym, ◌∙◌, append-nil, arith, length-take-le}
use Rattle.polar.specs.Bytes.{byte}
use Rattle.polar.specs.Marks.{collect}
use Rattle.polar.proofs.Active.{length_collect, collect_more, trues_take_more, trues_take_bound}
use Rattle.polar.proofs.Written.{byte_is, written_push}
use Rattle.polar.proofs.code.write_active.Goals as goal
use Rattle.polar.proofs.code.write_active.Goals.{then-mark, else-mark}

pub bounds-out-next : goal.bounds-out-next
bounds-out-next c =
    let marks = c.args.marks.now in
    let i = c.loop-i.i in
    omega (arith, c.loop-i.invariant.0, trues_take_more marks i true c.loop-i-test.true c.if-mark.true, trues_take_bound marks (i + 1))

pub overflow_add-next : goal.overflow_add-next
overflow_add-next c =
    let marks = c.args.marks.now in
    let i = c.loop-i.i in
    record { fits = omega (arith, c.loop-i.invariant.0, trues_take_more marks i true c.loop-i-test.true c.if-mark.true, trues_take_bound marks (i + 1)) }

pub loop-i-preserved : goal.loop-i-preserved
loop-i-preserved c =
    let marks = c.args.marks.now in
    let labels = c.args.labels.now in
    let out = c.args.out.now in
    let i = c.loop-i.i in
    let within = c.loop-i-test.true in
    let front = collect (take i marks) (take i labels) in
    let size : length front ≡ c.loop-i.next =
    length_collect (take i marks) (take i labels) (length-take-le i labels (omega arith) ∙ sym (length-take-le i marks (omega arith))) ∙ sym c.loop-i.invariant.0 in
    elim c.if-mark.branch [
      | then-mark w ↦
          let count = trues_take_more marks i true within w.if-mark.true in
          let more = collect_more marks labels i true c.requires.same_len within w.if-mark.true in
          let room : c.loop-i.next < length out = omega (arith, c.loop-i.invariant.0, trues_take_bound marks (i + 1)) in
          let wrote = written_push byte front (get_or labels i false) out c.loop-i.next 0 size room in
          let is : w.from.result ≡ byte (get_or labels i false) = w.from.ensures ∙ byte_is (get_or labels i false) in
          (omega (arith, w.next-is, c.loop-i.invariant.0), w.out-is ∙ rw (is, c.loop-i.invariant.1) (wrote ∙ rw (w.next-is, more)))
      | else-mark w ↦
          let count = trues_take_more marks i false within w.if-mark.false in
          let more = collect_more marks labels i false c.requires.same_len within w.if-mark.false ∙ append-nil front in
          (omega (arith, w.next-is, c.loop-i.invariant.0), w.out-is ∙ c.loop-i.invariant.1 ∙ rw (w.next-is, more))
    ]
