-- Labels as a relation: what it is for a node to have a label. Assumes nothing.
use Rattle.std.specs.Prelude.{◌≡◌, ℕ, ◌+◌, Bool, ◌⊎◌, List, [], ◌∷◌, ◌++◌}
use Rattle.polar.specs.Words.{xor}

-- z is x + y modulo 2, place by place; an odd last bit of x has no partner and passes through
pub data Added : List Bool → List Bool → List Bool → Type 0 where
  nothing : Added [] [] []
  passes : (b : Bool) → Added (b ∷ []) [] (b ∷ [])
  adds : (b c : Bool) {x y z : List Bool} → Added x y z → Added (b ∷ x) (c ∷ y) (xor b c ∷ z)

-- A node of this length, whose leaves have these labels in order, has this label. A leaf has its own bit. A node's left child is
-- as long as its right one or one longer; with left label x and right label y the node has (x + y, y).
pub data Labelled : ℕ → List Bool → List Bool → Type 0 where
  at_leaf : (b : Bool) → Labelled 1 (b ∷ []) (b ∷ [])
  at_node : {m n : ℕ} {ls rs x y z : List Bool} → (m ≡ n) ⊎ (m ≡ n + 1) → Labelled m ls x → Labelled n rs y → Added x y z → Labelled (m + n) (ls ++ rs) (z ++ y)
