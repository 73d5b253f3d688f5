-- The codeword of data by a plan's marks, and the data of a word. Assumes nothing.
use Rattle.std.specs.Prelude.{◌≡◌, ◌≤◌, Bool, List, length}
use Rattle.polar.specs.Shape.{Shape, balanced}
use Rattle.polar.specs.Words.{trues}
use Rattle.polar.specs.Labels.{label, unlabel}
use Rattle.polar.specs.LabelLaws.{Labelled}
use Rattle.polar.specs.Marks.{spread, collect, Clear}

-- the tree of a plan with these marks
abbrev pub tree_of : List Bool → Shape
tree_of ms = balanced (length ms)

abbrev pub codeword : List Bool → List Bool → List Bool
codeword ms ds = label (tree_of ms) (spread ms ds)

abbrev pub data_of : List Bool → List Bool → List Bool
data_of ms c = collect ms (unlabel (tree_of ms) c)

-- the data of a codeword are those that it was made of
abbrev pub DataReturn : Type 0
DataReturn = (ms ds : List Bool) → 1 ≤ length ms → length ds ≡ trues ms → data_of ms (codeword ms ds) ≡ ds

-- What it is for a word to encode data by marks: it is the label of the block's root over leaves of which
-- the frozen ones are 0 and the active ones carry the data in order.
pub record Encodes (ms ds word : List Bool) : Type 0 where
  pub leaves : List Bool
  pub labelled : Labelled (length ms) leaves word
  pub frozen : Clear ms leaves
  pub active : collect ms leaves ≡ ds
