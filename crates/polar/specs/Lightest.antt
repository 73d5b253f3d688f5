-- A plan's weight, found node by node. Assumes nothing.
use Rattle.std.specs.Prelude.{ℕ, ◌+◌, ◌^◌, ◌≤◌, min, Bool, false, cond, ◌&&◌, List, [], ◌∷◌, ◌==◌, Some, None, Option, slice_index_or}
use Rattle.polar.specs.Marks.{lesser}
use Rattle.polar.specs.declared.frame.Node.{Node}

-- an active leaf weighs 2 to its turns; any other node has no weight of its own, which is 0
abbrev pub node_weight : List Bool → Node → ℕ
node_weight ms n = cond (n.len == 1 && slice_index_or ms n.first false) (2 ^ n.turns) 0

-- such a weight as a value that may be missing
abbrev pub some_weight : ℕ → Option ℕ
some_weight w = cond (w == 0) None (Some w)

-- the smaller of two such values
abbrev pub lesser_of : Option ℕ → Option ℕ → Option ℕ
lesser_of None w = w
lesser_of (Some v) None = Some v
lesser_of (Some v) (Some w) = Some (min v w)

-- the smallest of the nodes' weights
abbrev pub lightest : List Bool → List Node → ℕ
lightest ms [] = 0
lightest ms (n ∷ ns) = lesser (node_weight ms n) (lightest ms ns)

-- a node of a block of this length, at most 12 turns from the root
abbrev pub Within : ℕ → Node → Type 0
Within len n = (n.first + n.len ≤ len) × (n.turns ≤ 12)
