-- A walk by the nodes that it has yet to enter, and the law of whole runs. Assumes nothing.
use Rattle.std.specs.Prelude.{◌≡◌, ℕ, suc, List, [], ◌∷◌, length, Some, None, Option, Result}
use Rattle.std.specs.List.{slice_get}
use Rattle.polar.specs.Preorder.{reading_order, ahead, here}
use Rattle.polar.specs.Refusals.{Outcome, length_due}
use Rattle.polar.specs.declared.frame.Node.{Node}
use Rattle.polar.specs.declared.walk.Walk.{Walk}
use Rattle.polar.specs.declared.refusal.Refusal.{Refusal}

-- the node that a walk stands on
abbrev pub current : Walk → Node
current w = here w.frames w.depth

-- the nodes that it has yet to enter, in order
abbrev pub remaining : Walk → List Node
remaining w = ahead w.frames w.depth

-- a new walk over n symbols stands on the root and has all other nodes before it
abbrev pub Begun : ℕ → Walk → Type 0
Begun n w = current w ∷ remaining w ≡ reading_order n

abbrev pub WalkMade : ℕ → Result Walk Refusal → Type 0
WalkMade n answer = Outcome (length_due n None) answer (Begun n) (Unit {0})

-- A move from w to w' enters the first of the remaining nodes; where none remains, it answers none and stays.
abbrev pub Moved : Walk → Option Node → Walk → Type 0
Moved w None w' = (remaining w ≡ []) × (w' ≡ w)
Moved w (Some n) w' = (remaining w ≡ n ∷ remaining w') × (current w' ≡ n)

-- a run: a walk that moves lead to from a new walk over n symbols, with what they answered, the latest first
pub data Run (n : ℕ) : List (Option Node) → Walk → Type 0 where
  new : {w : Walk} → Begun n w → Run n [] w
  move : {answers : List (Option Node)} {w w' : Walk} {answer : Option Node} → Run n answers w → Moved w answer w' → Run n (answer ∷ answers) w'

-- Over a whole run the k-th answer is the k-th node in reading order, the root being node 0; past the last leaf it is none.
abbrev pub ReadingOrder : Type 0
ReadingOrder =
    (n : ℕ) (answer : Option Node) (answers : List (Option Node)) (w : Walk) → Run n (answer ∷ answers) w
    → answer ≡ slice_get (reading_order n) (suc (length answers))
