use Rattle.std.proofs.Common.{◌≡◌}
use Rattle.polar.specs.Walks.{remaining}
use Rattle.polar.proofs.walk.Walk.enter_next.Given as goal

abbrev pub invariant-loop : goal.invariant-loop
invariant-loop l = remaining l.initial.self ≡ remaining l.self

abbrev pub decreases-loop : goal.decreases-loop
decreases-loop l = l.self.depth
