use Rattle.std.proofs.Common.{◌≡◌, length, Some, sym, ◌∙◌, subst, arith}
use Rattle.polar.specs.Marks.{weight}
use Rattle.polar.specs.Codewords.{tree_of}
use Rattle.polar.specs.Plans.{marks_of}
use Rattle.polar.specs.Distances.{LeastWeight, MinimumDistance}
use Rattle.polar.proofs.Shapes.{leaves_balanced, left_heavy_balanced}
use Rattle.polar.specs.Lightest.{some_weight}
use Rattle.polar.specs.declared.plan.Plan.{Plan}
use Rattle.polar.proofs.Weighing.{some_weight_is}
use Rattle.polar.proofs.PlanFacts.{sized}
use Rattle.polar.proofs.Minimum.{some_weighs, least_weight, minimum_distance, leaf_weights}
use Rattle.polar.proofs.plan.Plan.weight.Goals as goal

-- some leaf is active
weighed : (plan : Plan) → some_weight (weight (tree_of (marks_of plan)) (marks_of plan)) ≡ Some (weight (tree_of (marks_of plan)) (marks_of plan))
weighed plan =
    let ms = marks_of plan in
    let size = sized plan in
    some_weight_is (weight (tree_of ms) ms) (some_weighs (tree_of ms) ms (sym (leaves_balanced (length ms) size.0)) size.2)

pub unwrap-requires : goal.unwrap-requires
unwrap-requires c = rw (c.least_weight.ensures, c.as_slice.ensures.value, weighed c.args.self.now)

pub returns : goal.returns
returns c =
    let plan = c.args.self.now in
    let ms = marks_of plan in
    let s = tree_of ms in
    let size = sized plan in
    let heavy = left_heavy_balanced (length ms) size.0 in
    let all = leaves_balanced (length ms) size.0 in
    let found : c.least_weight.result ≡ Some (weight s ms) = c.least_weight.ensures ∙ rw c.as_slice.ensures.value (weighed plan) in
    let value : c.unwrap.result ≡ weight s ms = cc in
    record {
      value = value;
      least = subst (LeastWeight s ms) (sym value) (least_weight s ms heavy (sym all) size.2);
      distance = subst (MinimumDistance s ms) (sym value) (minimum_distance s ms heavy (sym all) size.2);
      leaves = leaf_weights s heavy (omega (arith, size.1));
    }
