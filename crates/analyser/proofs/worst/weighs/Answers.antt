use Rattle.std.proofs.Common.{◌≡◌, ◌*◌, ◌%◌, ◌^◌, ◌≤◌, length, ap, ◌∙◌, mod-eq_of_lt, one-mul, arith, pow_mono}
use Rattle.polar.specs.Codewords.{tree_of}
use Rattle.polar.proofs.Shapes.{leaves_balanced, left_heavy_balanced}
use Rattle.polar.proofs.Minimum.{leaf_weights}
use Rattle.analyser.specs.Worst.{leaf_weight}
use Rattle.analyser.proofs.worst.weighs.Goals as goal
use Rattle.analyser.proofs.worst.weighs.Goals.{After-turns_of}

few : (c : After-turns_of) → c.turns_of.result ≤ 12
few c =
    let ms = c.args.marks.now in
    let some : 1 ≤ length ms = omega (arith, c.requires.within) in
    let size = leaves_balanced (length ms) some in
    omega (arith, c.turns_of.ensures.value, (leaf_weights (tree_of ms) (left_heavy_balanced (length ms) some) (omega (arith, size, c.requires.short)) c.args.leaf (omega (arith, size, c.requires.within))).1)

pub overflow_shl-result : goal.overflow_shl-result
overflow_shl-result c = omega (arith, few c)

pub returns-then-marks-leaf : goal.returns-then-marks-leaf
returns-then-marks-leaf c =
    let ms = c.args.marks.now in
    let t = c.turns_of.result in
    let small : 2 ^ t ≤ 2 ^ 12 = pow_mono (few c) in
    let is : (1 * 2 ^ t) % 18446744073709551616 ≡ leaf_weight ms c.args.leaf =
    mod-eq_of_lt (omega arith) ∙ one-mul (2 ^ t) ∙ ap (λ k. 2 ^ k) c.turns_of.ensures.value in
    rw (c.if-marks-leaf.true, is)
