use Rattle.std.proofs.Common.{◌≡◌, ℕ, length}
use Rattle.std.specs.List.{All}
use Rattle.polar.specs.Marks.{lesser}
use Rattle.polar.specs.Preorder.{reading_order}
use Rattle.polar.specs.Walks.{remaining}
use Rattle.polar.specs.Lightest.{some_weight, lightest, Within}
use Rattle.polar.proofs.weight.least_weight.Given as goal

-- the weight so far, and the smallest of the nodes that the walk has left
abbrev pub invariant-loop-node : goal.invariant-loop-node
invariant-loop-node l =
    ((w : ℕ) × (l.least ≡ some_weight w) × (lesser w (lightest l.marks (remaining l.node-iterator)) ≡ lightest l.marks (reading_order (length l.marks))))
    × All (Within (length l.marks)) (remaining l.node-iterator)
