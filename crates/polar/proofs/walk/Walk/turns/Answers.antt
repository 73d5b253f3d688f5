use Rattle.std.proofs.Common.{◌≡◌, ◌≤◌, take, length, sum_by, sym, ◌∙◌, arith, rules}
use Rattle.std.proofs.lemmas.List.{length-take}
use Rattle.std.proofs.lemmas.Iterator.{YieldsList-from_slice}
use Rattle.std.proofs.lemmas.Iterator.Adapters.{fits_from_length, at_most_from_yields_List}
use Rattle.polar.specs.Preorder.{turning, turned}
use Rattle.polar.proofs.Walked.{turned_sum, turned_most}
use Rattle.polar.proofs.walk.Walk.turns.Goals as goal

pub sum-requires-clause-fits : goal.sum-requires-clause-fits
sum-requires-clause-fits c =
    let walk = c.args.self.now in
    let way = take walk.depth walk.frames in
    let short : length way ≤ 13 = grind (arith, length-take) in
    fits_from_length _ _ 13 _ (at_most_from_yields_List (YieldsList-from_slice way cc) short) c.map.ensures.closure (omega arith) (λ x r q k. search (rules, arith))

pub returns : goal.returns
returns c =
    let walk = c.args.self.now in
    let way = take walk.depth walk.frames in
    let value : c.sum.result ≡ sum_by turning way = search rules in
    let same : c.sum.result ≡ turned way = value ∙ sym (turned_sum way) in
    record { value = same; few = grind (arith, same, turned_most way, length-take) }
