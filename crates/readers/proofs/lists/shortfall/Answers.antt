use Rattle.polar.specs.Plans.{marks_of}
use Rattle.readers.proofs.Listing.{list_facts}
use Rattle.readers.proofs.lists.shortfall.Goals as goal

pub sum_shortfalls-requires-clause-fits : goal.sum_shortfalls-requires-clause-fits
sum_shortfalls-requires-clause-fits g c =
    (list_facts g.K.Soft.kind g.K.Listed.unfit (marks_of c.args.plan.now) c.args.values.now c.in_ok-check_list.ensures.0).1
