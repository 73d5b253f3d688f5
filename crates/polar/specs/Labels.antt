-- The label of a tree's root from the labels of its leaves, and back. Assumes nothing.
use Rattle.std.specs.Prelude.{Bool, List, ◌++◌, take, drop}
use Rattle.polar.specs.Shape.{Shape, leaf, node, leaves}
use Rattle.polar.specs.Words.{plus}

-- (x + y, y) for the left label x and the right label y
abbrev pub join : List Bool → List Bool → List Bool
join x y = plus x y ++ y

abbrev pub label : Shape → List Bool → List Bool
label leaf bs = bs
label (node l r) bs = join (label l (take (leaves l) bs)) (label r (drop (leaves l) bs))

-- the leaves that a label comes from
abbrev pub unlabel : Shape → List Bool → List Bool
unlabel leaf c = c
unlabel (node l r) c = unlabel l (plus (take (leaves l) c) (drop (leaves l) c)) ++ unlabel r (drop (leaves l) c)
