-- The nodes of a block's tree in reading order, and those that are ahead of a walk. Assumes nothing.
use Rattle.std.specs.Prelude.{◌≡◌, ℕ, ◌+◌, ◌-◌, ◌^◌, ◌<◌, ◌≤◌, Bool, true, false, cond, List, [], ◌∷◌, ◌++◌, take, nat_lt, slice_index_or}
use Rattle.polar.specs.Shape.{Shape, leaf, node, leaves, balanced}
use Rattle.polar.specs.declared.frame.Node.{Node}
use Rattle.polar.specs.declared.frame.Frame.{Frame}
use Rattle.polar.specs.declared.frame.Kind.{Kind}
use Rattle.polar.specs.declared.frame.Kind.TheVariants.{Leaf, Inner}
use Rattle.polar.specs.declared.frame.Done.{Done}
use Rattle.polar.specs.declared.frame.Done.TheVariants.{Neither, Left, Both}

abbrev pub node_at : ℕ → ℕ → ℕ → Node
node_at n from t = record { len = n; first = from; turns = t }

-- Reading order: a node, then all under its left child, then all under its right child. `from` is the place of the
-- node's first symbol, `t` the number of right branches on the way to it.
abbrev pub nodes : Shape → ℕ → ℕ → List Node
nodes leaf from t = node_at 1 from t ∷ []
nodes (node l r) from t = node_at (leaves l + leaves r) from t ∷ nodes l from t ++ nodes r (from + leaves l) (t + 1)

-- the nodes of a block of n symbols in reading order
abbrev pub reading_order : ℕ → List Node
reading_order n = nodes (balanced n) 0 0

-- all under a node
abbrev pub under : Shape → ℕ → ℕ → List Node
under leaf from t = []
under (node l r) from t = nodes l from t ++ nodes r (from + leaves l) (t + 1)

-- all under a node's right child, with that child
abbrev pub under_right : Shape → ℕ → ℕ → List Node
under_right leaf from t = []
under_right (node l r) from t = nodes r (from + leaves l) (t + 1)

-- a node as it is entered
abbrev pub fresh : ℕ → ℕ → Frame
fresh n from = record { len = n; first = from; done = Neither }

abbrev pub kind_of : ℕ → Kind
kind_of n = cond (nat_lt n 2) Leaf Inner

-- with one child more finished
abbrev pub more_done : Done → Done
more_done Neither = Left
more_done Left = Both
more_done Both = Both

abbrev pub one_more : Frame → Frame
one_more f = record { len = f.len; first = f.first; done = more_done f.done }

-- a walk below a node whose left child is finished went right there
abbrev pub turn_by : Done → ℕ
turn_by Neither = 0
turn_by Left = 1
turn_by Both = 0

abbrev pub turning : Frame → ℕ
turning f = turn_by f.done

-- the right branches along the way
abbrev pub turned : List Frame → ℕ
turned [] = 0
turned (f ∷ fs) = turning f + turned fs

-- what is ahead under a node of this shape, by its children that are finished
abbrev pub todo_by : Done → Shape → ℕ → ℕ → List Node
todo_by Neither s from t = under s from t
todo_by Left s from t = under_right s from t
todo_by Both s from t = []

-- what is ahead of a walk under the node that it stands on, t turns from the root
abbrev pub todo : ℕ → Frame → List Node
todo t f = todo_by f.done (balanced f.len) f.first t

-- what is ahead of a walk under a node once the child that it is in is finished
abbrev pub later : ℕ → Frame → List Node
later t f = todo t (one_more f)

-- beside the way to the walk's node, root first: the deepest comes first
abbrev pub pending : ℕ → List Frame → List Node
pending t [] = []
pending t (f ∷ fs) = pending (t + turning f) fs ++ later t f

-- the node at this depth on the way
abbrev pub frame_at : List Frame → ℕ → Frame
frame_at fs d = slice_index_or fs d (fresh 0 0)

-- what bounds a node at depth k of a tree of at most 4096 symbols
abbrev pub Fitting : ℕ → Frame → Type 0
Fitting k f = (f.len ≤ 2 ^ (12 - k)) × (f.first + f.len ≤ 4096)

-- the nodes that a walk has yet to enter, in order
abbrev pub ahead : List Frame → ℕ → List Node
ahead fs d = todo (turned (take d fs)) (frame_at fs d) ++ pending 0 (take d fs)

-- the node that a walk stands on
abbrev pub here : List Frame → ℕ → Node
here fs d = node_at (frame_at fs d).len (frame_at fs d).first (turned (take d fs))

-- whether a list of nodes has any
abbrev pub More : Bool → List Node → Type 0
More true ns = ns ≡ [] → ⊥
More false ns = ns ≡ []

-- whether a node is ahead under a frame's own, and once the child at hand is finished: the turns do not matter
abbrev pub Unfinished : Frame → Bool → Type 0
Unfinished f r = (t : ℕ) → More r (todo t f)

abbrev pub RightAhead : Frame → Bool → Type 0
RightAhead f r = (t : ℕ) → More r (later t f)

-- a part of a move: a node is entered, or one is left and the same is ahead
abbrev pub Stepped : List Frame → ℕ → List Frame → ℕ → Bool → Type 0
Stepped fs d fs' d' true = ahead fs d ≡ here fs' d' ∷ ahead fs' d'
Stepped fs d fs' d' false = (ahead fs d ≡ ahead fs' d') × (d' < d)
