use Rattle.std.proofs.Common.{◌≡◌, ◌+◌, ℕ, Bool, true, false, List, [], ◌∷◌, map, ◌∙◌, arith, rules, tests}
use mir.Val.{bool_byte}
use Rattle.std.specs.List.{sum, fold}
use Rattle.std.proofs.lemmas.Iterator.{YieldsList-from_slice, YieldsList-from_map}
use Rattle.std.proofs.lemmas.Iterator.Consumers.{YieldsList-at, sum_from_yields_List, fits_from_yields_list}
use Rattle.polar.specs.Words.{trues}
use Rattle.polar.proofs.Sums.{trues_bound}
use Rattle.polar.proofs.bits.count_ones.Goals as goal

-- the sum of the bits
summed : (n : ℕ) (bs : List Bool) → fold ◌+◌ n (map bool_byte bs) ≡ n + trues bs
summed n [] = omega arith
summed n (true ∷ bs) = summed (n + 1) bs ∙ omega arith
summed n (false ∷ bs) = summed (n + 0) bs ∙ omega arith

counted : (bs : List Bool) → sum (map bool_byte bs) ≡ trues bs
counted bs = summed 0 bs ∙ omega arith

pub sum-requires-clause-fits : goal.sum-requires-clause-fits
sum-requires-clause-fits c =
    fits_from_yields_list c.map.result _ (YieldsList-from_map _ bool_byte (YieldsList-at c.map.ensures.source (YieldsList-from_slice c.args.word.now cc)) c.map.ensures.closure (λ x r q k. search (rules, tests)))
    (omega (arith, counted c.args.word.now, trues_bound c.args.word.now, c.iter.ensures.bound))

pub returns : goal.returns
returns c =
    let ones = sum_from_yields_List c.map.result _ c.sum.ensures.ran (YieldsList-from_map _ bool_byte (YieldsList-at c.map.ensures.source (YieldsList-from_slice c.args.word.now cc)) c.map.ensures.closure (λ x r q k. search (rules, tests))) in
    let is = ones ∙ counted c.args.word.now in
    search (rules, is)
