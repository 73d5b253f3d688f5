-- Text as bytes. Assumes nothing.
use Rattle.std.specs.Prelude.{ℕ, Bool, cond, List, [], ◌∷◌, ◌++◌, map}
use Rattle.std.specs.List.{flat_map}

-- every line ends with a line feed
abbrev pub line : List ℕ → List ℕ
line text = text ++ (10 ∷ [])

abbrev pub lines : List (List ℕ) → List ℕ
lines texts = flat_map line texts

-- bits as the characters 0 and 1
abbrev pub digit : Bool → ℕ
digit b = cond b 49 48

abbrev pub digits : List Bool → List ℕ
digits bs = map digit bs
