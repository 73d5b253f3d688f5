-- What a plan's weight says of its codewords. Assumes nothing.
use Rattle.std.specs.Prelude.{◌≡◌, ℕ, ◌^◌, ◌<◌, ◌≤◌, Bool, true, false, List, ◌≢◌, slice_index, slice_index_or}
use Rattle.polar.specs.Shape.{Shape, leaves, turns}
use Rattle.polar.specs.Words.{plus, trues}
use Rattle.polar.specs.Labels.{label}
use Rattle.polar.specs.Marks.{Codeword, single}

-- d is the smallest weight of an active leaf, 2 to the right branches on the way to it
pub record LeastWeight (s : Shape) (ms : List Bool) (d : ℕ) : Type 0 where
  pub below : (i : ℕ) → i < leaves s → slice_index_or ms i false ≡ true → d ≤ 2 ^ slice_index (turns s) i
  pub attained : (i : ℕ) × (i < leaves s) × (slice_index_or ms i false ≡ true) × (d ≡ 2 ^ slice_index (turns s) i)

-- different codewords differ in d places or more, and some two in d
pub record MinimumDistance (s : Shape) (ms : List Bool) (d : ℕ) : Type 0 where
  pub apart : (c c' : List Bool) → Codeword s ms c → Codeword s ms c' → (c ≢ c') → d ≤ trues (plus c c')
  pub attained : (c : List Bool) × (c' : List Bool) × Codeword s ms c × Codeword s ms c' × (c ≢ c') × (trues (plus c c') ≡ d)

-- the label of one leaf alone has Hamming weight 2 to its turns, which are at most 12
abbrev pub LeafWeights : Shape → Type 0
LeafWeights s = (i : ℕ) → i < leaves s → (trues (label s (single (leaves s) i)) ≡ 2 ^ slice_index (turns s) i) × (slice_index (turns s) i ≤ 12)
