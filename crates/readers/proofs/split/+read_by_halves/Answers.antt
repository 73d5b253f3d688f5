use Rattle.std.proofs.Common.{◌≡◌, ◌+◌, ◌/◌, ◌≤◌, Bool, false, List, length, sym, ap, ◌∙◌, arith}
use Rattle.readers.specs.Rows.{joined_rows}
use Rattle.readers.specs.Node.{posed_few}
use Rattle.readers.specs.SplitSteps.{own_least, posed_left, posed_right, same_answer, split_taken, split_untaken, two_leaves, left_ready, right_ready}
use Rattle.readers.proofs.split.+read_by_halves.Given as given
use Rattle.readers.proofs.split.+read_by_halves.Goals as goal

-- a node that the reader below does not take has two children
split_node : (g : given.Over) (below : g.row.R.Denot) {marks : List Bool} {taken : Bool} → 1 ≤ length marks → taken ≡ (g.R.Reader.reading below).taking marks → taken ≡ false → 2 ≤ length marks
split_node g below some told untaken = two_leaves g.K.Soft.kind g.met.K.Soft.rules _ (g.met.R.Reader.rules below) _ some (sym told ∙ untaken)

pub returns-then-takes : goal.returns-then-takes
returns-then-takes g t c =
    let below = g.R.Reader.reading c.args.below.now in
    c.read.ensures ∙ sym (split_taken g.K.Soft.kind below _ _ _ _ (sym c.takes.ensures ∙ c.if-takes.true))

pub split_at_mut-work-requires : goal.split_at_mut-work-requires
split_at_mut-work-requires g t c =
    let two = split_node g c.args.below.now c.args.question.now.posed.some c.takes.ensures c.if-takes.false in
    let half = c.children-half.ensures.left two in
    omega (arith, c.requires.soft_room, own_least (length c.args.question.now.marks.now) two)

pub compare_halves-requires-clause-halved : goal.compare_halves-requires-clause-halved
compare_halves-requires-clause-halved g t c =
    let posed = c.args.question.now.posed in
    let two = split_node g c.args.below.now posed.some c.takes.ensures c.if-takes.false in
    let half = c.children-half.ensures.left two in
    (omega (arith, posed.same), omega (arith, posed.same))

pub invariant_of-left : goal.invariant_of-left
invariant_of-left g t c =
    let posed = c.args.question.now.posed in
    let two = split_node g c.args.below.now posed.some c.takes.ensures c.if-takes.false in
    let left = posed_left g.K.Soft.kind g.met.K.Soft.rules _ _ _ posed two _ (c.children-half.ensures.left two) in
    record { posed = rw (c.split_at.ensures.front, c.compare_halves.ensures) left }

pub read_by_halves-requires : goal.read_by_halves-requires
read_by_halves-requires g t c κs within =
    let two = split_node g c.args.below.now c.args.question.now.posed.some c.takes.ensures c.if-takes.false in
    let half = c.children-half.ensures.left two in
    let size = c.split_at.ensures.front_len in
    let ready = left_ready g.K.Soft.kind g.met.K.Soft.rules _ (g.met.R.Reader.rules c.args.below.now) _ _ _ _ c.requires two _ half _ c.split_at_mut-work.ensures.back_len _ _ c.split_at.ensures.front c.split_at_mut-left_out.ensures.front_len in
    (omega (arith, c.decreases), (within.0, (within.1, ready)))

pub overflow_add-right : goal.overflow_add-right
overflow_add-right g t c =
    let posed = c.args.question.now.posed in
    let few = posed_few posed (split_node g c.args.below.now posed.some c.takes.ensures c.if-takes.false) in
    omega arith

pub invariant_of-right : goal.invariant_of-right
invariant_of-right g t c =
    let posed = c.args.question.now.posed in
    let two = split_node g c.args.below.now posed.some c.takes.ensures c.if-takes.false in
    let wide = c.read_by_halves.auto.out ∙ c.split_at_mut-left_out.ensures.front_len in
    let right = posed_right g.K.Soft.kind g.met.K.Soft.rules _ _ _ posed two _ (c.children-half.ensures.left two) _ wide in
    record { posed = rw (c.split_at.ensures.back, c.join_halves.ensures) right }

pub read_by_halves-requires-2 : goal.read_by_halves-requires-2
read_by_halves-requires-2 g t c κs within =
    let two = split_node g c.args.below.now c.args.question.now.posed.some c.takes.ensures c.if-takes.false in
    let half = c.children-half.ensures.left two in
    let size = c.split_at.ensures.back_len in
    let cut = ap (λ n. n + c.children-half.result.0) c.read_by_halves.auto.soft ∙ c.split_at_mut-work.ensures.back_len in
    let tail = c.split_at_mut-left_out.ensures.back_len ∙ c.requires.out_room in
    let ready = right_ready g.K.Soft.kind g.met.K.Soft.rules _ (g.met.R.Reader.rules c.args.below.now) _ _ _ _ c.requires two _ half _ cut _ _ _ c.split_at.ensures.back c.read_by_halves.auto.bits tail in
    (omega (arith, c.decreases), (within.0, (within.1, ready)))

pub returns : goal.returns
returns g t c =
    let kind = g.K.Soft.kind in
    let below = g.R.Reader.reading c.args.below.now in
    let marks = c.args.question.now.marks.now in
    let two = split_node g c.args.below.now c.args.question.now.posed.some c.takes.ensures c.if-takes.false in
    let half = c.children-half.ensures.left two in
    let n = c.children-half.result.0 in
    let left = c.read_by_halves.new.out in
    let right = c.read_by_halves-2.new.out in
    let wide = c.read_by_halves.auto.out ∙ c.split_at_mut-left_out.ensures.front_len in
    let size : length c.split_at.result.1.now ≡ length marks / 2 = omega (arith, c.split_at.ensures.back_len) in
    let isl = c.read_by_halves.ensures ∙ same_answer kind below _ _ _ _ _ n c.split_at.ensures.front c.compare_halves.ensures c.split_at.ensures.front_len in
    let isr = c.read_by_halves-2.ensures ∙ same_answer kind below _ _ _ _ _ _ c.split_at.ensures.back c.join_halves.ensures size in
    let short : length right ≤ n = omega (arith, c.read_by_halves-2.auto.out, c.split_at_mut-left_out.ensures.back_len, c.requires.out_room) in
    joined_rows n left right _ wide short c.add_right.ensures ∙ split_untaken kind below _ _ _ n left right (sym c.takes.ensures ∙ c.if-takes.false) two half isl isr
