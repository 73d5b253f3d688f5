-- What a capture holds, how it is made, and how far it is from a word. Assumes nothing.
use Rattle.std.specs.Prelude.{ℕ, suc, ◌+◌, Bool, cond, List, [], ◌∷◌, map, ℤ, pos, neg_ℤ, Some, None, Option, int_lt}
use Rattle.std.specs.Option.{option_map}
use Rattle.soft.specs.Whole.{short_of}
use Rattle.polar.specs.Codewords.{codeword}
use Rattle.storage.specs.Contents.{Content, content_of}

-- a plan's marks, a count for each symbol, and the exponent of the scale
pub record Captured : Type 0 where
  pub marks_row : List Bool
  pub count_row : List ℤ
  pub scale_exponent : ℕ

abbrev pub capture_of : List Bool → List ℤ → ℕ → Captured
capture_of ms counts k = record { marks_row = ms; count_row = counts; scale_exponent = k }

abbrev pub with_counts : Captured → List ℤ → Captured
with_counts c counts = capture_of c.marks_row counts c.scale_exponent

-- what is stored of a capture
abbrev pub content_in : Captured → Content
content_in c = content_of c.marks_row c.count_row c.scale_exponent

-- the count that a codeword bit is made with
abbrev pub full : ℕ → Bool → ℤ
full top b = cond b (neg_ℤ (pos top)) (pos top)

-- the capture that is made of a data word
abbrev pub made_of : ℕ → List Bool → List Bool → ℕ → Captured
made_of top ms ds k = capture_of ms (map (full top) (codeword ms ds)) k

-- the shortfall of counts from the bits of a word: the sum over the symbols
abbrev pub shortfall : ℕ → List ℤ → List Bool → ℕ
shortfall top [] word = 0
shortfall top (v ∷ counts) [] = 0
shortfall top (v ∷ counts) (b ∷ word) = short_of top v b + shortfall top counts word

-- a count's sign contradicts a bit: above zero speaks for 0, below for 1, and a zero contradicts nothing
abbrev pub against : ℤ → Bool → Bool
against v b = cond b (int_lt (pos 0) v) (int_lt v (pos 0))

-- the first place whose count contradicts its bit
abbrev pub first_against : List ℤ → List Bool → Option ℕ
first_against [] word = None
first_against (v ∷ counts) [] = None
first_against (v ∷ counts) (b ∷ word) = cond (against v b) (Some 0) (option_map suc (first_against counts word))
