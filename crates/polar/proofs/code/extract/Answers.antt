use Rattle.std.proofs.Common.{rules}
use Rattle.polar.specs.Bytes.{bits}
use Rattle.polar.specs.Plans.{marks_of}
use Rattle.polar.proofs.PlanFacts.{sized}
use Rattle.polar.proofs.Codes.{returned_of}
use Rattle.polar.proofs.code.extract.Goals as goal

pub returns-clause-returns : goal.returns-clause-returns
returns-clause-returns c =
    let plan = c.args.plan.now in
    returned_of (marks_of plan) _ c.take_out.new.word c.args.out.now c.take_out.new.out c.take_out.result (sized plan).0 c.take_out.ensures (bits c.args.word.now) (search rules)
