use Rattle.std.proofs.Common.{◌≡◌, Some, sym, ap, ◌∙◌, w16, to_z, of_z, rules}
use Rattle.levels.specs.Rounding.{nearest}
use Rattle.levels.specs.Level.{largest_count, exponent_of, count_of}
use Rattle.levels.proofs.Rounding.{nearest_rounds, clipping_commutes, within}
use Rattle.levels.proofs.Rows.{count_taken}
use Rattle.levels.proofs.scale.Scale.count_of.Goals as goal

pub returns-then-is_nan-clause-order : goal.returns-then-is_nan-clause-order
returns-then-is_nan-clause-order c = clipping_commutes nearest nearest_rounds

pub returns : goal.returns
returns c =
    let k = exponent_of c.args.self.now.step in
    let n = to_z w16 (of_z w16 c.nearest_count.result) in
    let converted : count_of largest_count k c.args.level ≡ Some n = count_taken largest_count k c.args.level (sym c.is_nan.ensures.value ∙ c.if-is_nan.false) ∙ ap Some (search rules) in
    record {
      value = (search rules, converted);
      within = λ m h. let same : n ≡ m = cc in within nearest nearest_rounds largest_count _ c.args.level m (converted ∙ ap Some same);
      rounding = search rules;
      order = clipping_commutes nearest nearest_rounds;
    }
