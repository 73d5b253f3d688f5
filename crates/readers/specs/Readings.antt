-- What a reader means, and the rules that it keeps. Assumes nothing.
use Rattle.std.specs.Prelude.{◌≡◌, ℕ, ◌+◌, ◌*◌, ◌^◌, ◌<◌, ◌≤◌, min, Bool, true, T, List, [], ◌∷◌, length}
use Rattle.std.specs.List.{AllByRecursion}
use Rattle.soft.specs.Kind.{Kind, limit}
use Rattle.polar.specs.Marks.{Codeword, weight}
use Rattle.polar.specs.Codewords.{tree_of}

-- a reader answers a word for a node's marks, its turns and a soft value for each of its symbols
pub record Reading (K : Type 0) : Type 0 where
  -- which marks the reader takes
  pub taking : List Bool → Bool
  -- the word for marks, turns and values
  pub answer : List Bool → ℕ → List K → List Bool
  -- how many soft places and bit places it works in, for a node of this length
  pub soft_need : ℕ → ℕ
  pub bit_need : ℕ → ℕ

-- sums of places stop just past the most that can be had
abbrev pub most_places : ℕ
most_places = 65536

abbrev pub capped : ℕ → ℕ
capped n = min n (most_places + 1)

-- each value fits the turns
abbrev pub AllFit : {K : Type 0} → Kind K → ℕ → List K → Type 0
AllFit kind turns values = AllByRecursion (λ v. T (kind.fitting v turns)) values

-- a node as it is given to a reader
pub record Posed {K : Type 0} (kind : Kind K) (marks : List Bool) (turns : ℕ) (values : List K) : Type 0 where
  pub some : 1 ≤ length marks
  pub short : length marks * 2 ^ turns ≤ 4096
  pub same : length values ≡ length marks
  pub fits : AllFit kind turns values

-- what a reading needs beside the node: that the reader takes it, a word as long as the node, and the places that it works in
pub record Ready {K : Type 0} (reading : Reading K) (marks : List Bool) (soft_places bit_places out_places : ℕ) : Type 0 where
  pub taken : reading.taking marks ≡ true
  pub out_room : out_places ≡ length marks
  pub soft_room : reading.soft_need (length marks) ≤ soft_places
  pub bit_room : reading.bit_need (length marks) ≤ bit_places
  pub soft_told : reading.soft_need (length marks) ≤ most_places
  pub bits_told : reading.bit_need (length marks) ≤ most_places

-- the shortfall of all values from all bits of a word
abbrev pub total : {K : Type 0} → Kind K → ℕ → List K → List Bool → ℕ
total kind turns [] word = 0
total kind turns (v ∷ values) [] = 0
total kind turns (v ∷ values) (b ∷ word) = kind.shortfall v b turns + total kind turns values word

-- a word that falls short by less than the limit times the node's relative weight; no word does at a node with no active leaf
abbrev pub Near : {K : Type 0} → Kind K → List Bool → ℕ → List K → List Bool → Type 0
Near kind marks turns values word = total kind turns values word < limit kind turns * weight (tree_of marks) marks

-- The rules of a reader. Taking depends on the marks alone, and every leaf is taken; the answer is a label of the node with 0 at each
-- frozen leaf; a near label is the answer; told places do not fall as the node grows.
pub record ReaderRules {K : Type 0} (kind : Kind K) (reading : Reading K) : Type 0 where
  pub leaf_taken : (mark : Bool) → reading.taking (mark ∷ []) ≡ true
  pub answers_label : (marks : List Bool) (turns : ℕ) (values : List K) → reading.taking marks ≡ true → Posed kind marks turns values → Codeword (tree_of marks) marks (reading.answer marks turns values)
  pub answers_near : (marks : List Bool) (turns : ℕ) (values : List K) (word : List Bool) → reading.taking marks ≡ true → Posed kind marks turns values → Codeword (tree_of marks) marks word → Near kind marks turns values word → reading.answer marks turns values ≡ word
  pub soft_grows : (m n : ℕ) → m ≤ n → reading.soft_need m ≤ reading.soft_need n
  pub bits_grow : (m n : ℕ) → m ≤ n → reading.bit_need m ≤ reading.bit_need n
