-- What is stored. Assumes nothing.
use Rattle.std.specs.Prelude.{◌≡◌, ℕ, ◌<◌, ◌≤◌, Bool, true, ◌&&◌, List, [], ◌∷◌, length, ℤ, nat_le, unsigned_abs}
use Rattle.polar.specs.Words.{trues}

-- a block: a mark for each leaf, `true` for an active one, a count for each symbol, and the exponent of the scale
pub record Content : Type 0 where
  pub marks : List Bool
  pub counts : List ℤ
  pub exponent : ℕ

abbrev pub content_of : List Bool → List ℤ → ℕ → Content
content_of ms vs k = record { marks = ms; counts = vs; exponent = k }

-- the largest size of a count
abbrev pub top_count : ℕ
top_count = 127

-- each count lies from -top to top
abbrev pub all_small : ℕ → List ℤ → Bool
all_small top [] = true
all_small top (v ∷ vs) = nat_le (unsigned_abs v) top && all_small top vs

-- what can be stored: 1 to 4096 marks, some of them active, a small count for each, and an exponent of at most 6
pub record Sound (top : ℕ) (c : Content) : Type 0 where
  pub some : 1 ≤ length c.marks
  pub short : length c.marks ≤ 4096
  pub active : 0 < trues c.marks
  pub paired : length c.counts ≡ length c.marks
  pub small : all_small top c.counts ≡ true
  pub scaled : c.exponent ≤ 6
