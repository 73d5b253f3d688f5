-- A plan's marks: `true` for an active leaf, which carries a datum, and `false` for a frozen one, whose label is 0.
-- Assumes nothing.
use Rattle.std.specs.Prelude.{◌≡◌, ℕ, ◌*◌, min, Bool, true, false, cond, List, [], ◌∷◌, length, take, drop, replicate, ◌==◌, slice_set}
use Rattle.polar.specs.Shape.{Shape, leaf, node, leaves}
use Rattle.polar.specs.Labels.{unlabel}

-- the data at the active leaves in order, `false` at the frozen ones
abbrev pub spread : List Bool → List Bool → List Bool
spread [] ds = []
spread (false ∷ ms) ds = false ∷ spread ms ds
spread (true ∷ ms) [] = false ∷ spread ms []
spread (true ∷ ms) (d ∷ ds) = d ∷ spread ms ds

-- what stands at the active leaves, in order
abbrev pub collect : List Bool → List Bool → List Bool
collect [] bs = []
collect (m ∷ ms) [] = []
collect (true ∷ ms) (b ∷ bs) = b ∷ collect ms bs
collect (false ∷ ms) (b ∷ bs) = collect ms bs

-- each frozen leaf has `false`
abbrev pub Clear : List Bool → List Bool → Type 0
Clear [] bs = Unit {0}
Clear (m ∷ ms) [] = Unit {0}
Clear (true ∷ ms) (b ∷ bs) = Clear ms bs
Clear (false ∷ ms) (b ∷ bs) = (b ≡ false) × Clear ms bs

-- n leaves of which the one at i alone has `true`
abbrev pub single : ℕ → ℕ → List Bool
single n i = slice_set (replicate n false) i true

-- c is a label of the tree with 0 at each frozen leaf
abbrev pub Codeword : Shape → List Bool → List Bool → Type 0
Codeword s ms c = (length c ≡ leaves s) × Clear ms (unlabel s c)

-- the smaller of two weights, where 0 stands for none
abbrev pub lesser : ℕ → ℕ → ℕ
lesser v w = cond (v == 0) w (cond (w == 0) v (min v w))

-- The smallest weight of an active leaf, a leaf's weight being 2 to the number of right branches on the way to it;
-- 0 where no leaf is active.
abbrev pub weight : Shape → List Bool → ℕ
weight leaf [] = 0
weight leaf (true ∷ ms) = 1
weight leaf (false ∷ ms) = 0
weight (node l r) ms = lesser (weight l (take (leaves l) ms)) (2 * weight r (drop (leaves l) ms))
