use Rattle.std.proofs.Common.{◌≡◌, ◌<◌, ◌≤◌, length, sym, ◌∙◌, arith}
use Rattle.std.proofs.lemmas.List.{take_all}
use Rattle.readers.specs.SplitReading.{joins}
use Rattle.readers.specs.Rows.{joins_more, length_joins}
use Rattle.readers.proofs.split.join_into.Goals as goal

pub loop-i-preserved : goal.loop-i-preserved
loop-i-preserved g c =
    let room : c.loop-i.i < length c.loop-i.out = omega (arith, c.requires.room) in
    joins_more g.K.Soft.kind.joined _ _ _ c.loop-i.out c.loop-i.i _ _ _ c.requires.paired.0 c.requires.paired.1 c.loop-i-test.true room
    c.index-left-i.is c.index-right-i.is c.join.ensures c.loop-i.invariant

pub returns : goal.returns
returns g c =
    let joined = g.K.Soft.kind.joined in
    let i = c.loop-i.i in
    let left = c.args.left.now in
    let right = c.args.right.now in
    let bits = c.args.left_bits.now in
    let long : length (joins joined left right bits) ≡ length right = length_joins joined left right bits c.requires.paired.0 c.requires.paired.1 in
    let full : length c.loop-i.out ≤ i = omega (arith, c.requires.room, c.loop-i-test.false) in
    let whole : length (joins joined left right bits) ≤ i = omega (arith, c.loop-i-test.false) in
    sym (take_all i c.loop-i.out full) ∙ c.loop-i.invariant ∙ take_all i _ whole
