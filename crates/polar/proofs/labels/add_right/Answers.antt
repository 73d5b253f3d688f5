use Rattle.std.proofs.Common.{◌≡◌, ◌+◌, ◌<◌, false, length, get_or, take, drop, sym, ap, ◌∙◌, arith, length-drop, length-take-le, get_or-drop}
use Rattle.polar.specs.Words.{xor}
use Rattle.polar.proofs.Merges.{merge_nil, merge_more, get_or_merge_past}
use Rattle.polar.proofs.labels.add_right.Goals as goal

pub loop-i-init : goal.loop-i-init
loop-i-init c = sym (merge_nil xor c.args.bits.now)

pub loop-i-preserved : goal.loop-i-preserved
loop-i-preserved c =
    let bits = c.args.bits.now in
    let i = c.loop-i.i in
    let right = drop c.args.mid bits in
    let long : i < length right = omega (arith, length-drop c.args.mid bits) in
    let front = length-take-le i right (omega arith) in
    -- both places that are read still hold what they held at the start
    let left_bit : get_or c.loop-i.bits i false ≡ get_or bits i false =
    ap (λ b. get_or b i false) c.loop-i.invariant ∙ get_or_merge_past xor bits (take i right) i false (omega arith) in
    let right_bit : get_or c.loop-i.bits (c.args.mid + i) false ≡ get_or right i false =
    ap (λ b. get_or b (c.args.mid + i) false) c.loop-i.invariant ∙ get_or_merge_past xor bits (take i right) (c.args.mid + i) false (omega arith)
    ∙ sym (get_or-drop c.args.mid bits i false) in
    let more = merge_more xor bits right i false (omega arith) long in
    rw (left_bit, right_bit, c.loop-i.invariant) (sym more)
