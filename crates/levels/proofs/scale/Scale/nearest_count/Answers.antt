use Rattle.std.proofs.Common.{◌∙◌, arith, w16, rules}
use Rattle.std.proofs.lemmas.Int.{to_z-of_z}
use Rattle.levels.specs.Rounding.{nearest}
use Rattle.levels.specs.Level.{largest_count}
use Rattle.levels.proofs.Levels.{ordered}
use Rattle.levels.proofs.Rounding.{nearest_rounds, counted_or_zero}
use Rattle.levels.proofs.scale.Scale.nearest_count.Goals as goal

pub clamp-clipped-requires : goal.clamp-clipped-requires
clamp-clipped-requires c = ordered _ largest_count (omega arith) c.limit-limit.ensures

pub returns : goal.returns
returns c =
    let n = c.nearest_whole.result in
    to_z-of_z w16 n (search rules)
    ∙ counted_or_zero nearest nearest_rounds largest_count (omega arith) c.args.level _ _ _ _ n (search rules) c.factor.ensures c.limit-limit.ensures c.clamp-clipped.ensures.value c.nearest_whole.ensures
