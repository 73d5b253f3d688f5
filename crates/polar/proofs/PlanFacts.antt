-- What every plan keeps. Assumes nothing.
use Rattle.std.proofs.Common.{◌<◌, ◌≤◌, length, arith}
use Rattle.polar.specs.Words.{trues}
use Rattle.polar.specs.Plans.{marks_of}
use Rattle.polar.specs.declared.plan.Plan.{Plan}
use Rattle.polar.proofs.Sums.{trues_bound}

-- its marks are 1 to 4096, and some leaf is active
pub sized : (plan : Plan) → (1 ≤ length (marks_of plan)) × (length (marks_of plan) ≤ 4096) × (0 < trues (marks_of plan))
sized plan =
    let long = plan.marks.ok.0 in
    let some : 0 < trues (marks_of plan) = omega (arith, plan.counted, plan.some) in
    (omega (arith, trues_bound (marks_of plan)), omega (arith, plan.short), some)
