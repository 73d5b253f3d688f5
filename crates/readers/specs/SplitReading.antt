-- The split layer: what the reader below does not take is read by halves. Assumes nothing.
use Rattle.std.specs.Prelude.{ℕ, ◌+◌, ◌*◌, max, Bool, true, cond, List, [], ◌∷◌, take, drop}
use Rattle.soft.specs.Kind.{Kind}
use Rattle.polar.specs.Shape.{Shape, leaf, node, leaves}
use Rattle.polar.specs.Words.{merge}
use Rattle.polar.specs.Labels.{join}
use Rattle.polar.specs.Codewords.{tree_of}
use Rattle.readers.specs.Readings.{Reading, capped}

-- the values of the left child: each symbol compared with its partner, the odd last one as it is
abbrev pub left_values : {K : Type 0} → Kind K → ℕ → List K → List K
left_values kind half values = merge kind.compared (take half values) (drop half values)

-- two rows of values and the row of left bits, joined place by place
abbrev pub joins : {K : Type 0} → (K → K → Bool → K) → List K → List K → List Bool → List K
joins f [] ws bits = []
joins f (v ∷ vs) [] bits = []
joins f (v ∷ vs) (w ∷ ws) [] = []
joins f (v ∷ vs) (w ∷ ws) (b ∷ bits) = f v w b ∷ joins f vs ws bits

-- the values of the right child, under the answer of the left one
abbrev pub right_values : {K : Type 0} → Kind K → ℕ → List K → List Bool → List K
right_values kind half values left = joins kind.joined (take half values) (drop half values) left

-- What the reader below takes goes there; any other node is read left first by comparing, then right by joining
-- under the left answer.
abbrev pub split_answer : {K : Type 0} → Kind K → Reading K → Shape → List Bool → ℕ → List K → List Bool
split_answer kind below leaf marks turns values = below.answer marks turns values
split_answer kind below (node l r) marks turns values =
    cond (below.taking marks) (below.answer marks turns values)
    (let left = split_answer kind below l (take (leaves l) marks) turns (left_values kind (leaves l) values) in
    let right = split_answer kind below r (drop (leaves l) marks) (turns + 1) (right_values kind (leaves l) values left) in
    join left right)

-- the soft places that reading by halves works in besides those of the reader below: the values of one child at each level
abbrev pub own_places : Shape → ℕ
own_places leaf = 0
own_places (node l r) = leaves l + max (own_places l) (own_places r)

-- the places of each sort that a split tells on top of the reader below
abbrev pub split_places : ℕ → ℕ
split_places n = 4 * n + 64

-- it takes every node
abbrev pub split_reading : {K : Type 0} → Kind K → Reading K → Reading K
split_reading kind below = record {
  taking = λ marks. true;
  answer = λ marks. split_answer kind below (tree_of marks) marks;
  soft_need = λ n. capped (below.soft_need n + split_places n);
  bit_need = λ n. capped (below.bit_need n + split_places n);
}
