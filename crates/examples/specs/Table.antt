-- The worked examples: known answers, one row each. Assumes nothing.
use Rattle.std.specs.Prelude.{◌≡◌, ℕ, Bool, true, false, List, [], ◌∷◌, map, ℤ, pos, neg_ℤ, Some, None, codes, nat_eq, Float}
use Prim.Native.String.{String}
use Rattle.std.specs.Float.{binary32}
use Rattle.std.specs.Float.Ieee.{round}
use Rattle.std.specs.List.{AllByRecursion}
use Rattle.polar.specs.Marks.{single}
use Rattle.soft.specs.declared.count.Count.{Count}
use Rattle.soft.specs.Counts.{count_kind, count_score, top_count}
use Rattle.readers.specs.Readings.{Reading}
use Rattle.readers.specs.LeafReading.{leaf_reading}
use Rattle.readers.specs.SplitReading.{split_reading}
use Rattle.scored_readers.specs.ExhaustiveReading.{exhaustive_reading}
use Rattle.scored_readers.specs.ShortcutReading.{shortcut_reading}
use Rattle.captures.specs.declared.edit.Edit.TheVariants.{Weaken}
use Rattle.captures.specs.Captures.{Captured, capture_of, content_in, made_of}
use Rattle.reports.specs.Printed.{bench_reading}
use Rattle.examples.specs.Questions.{Question, Answer, codeword_of, weight_of, word_by, data_by, data_after, shortfall_of, bound_of, count_from, bytes_of, load_of, print_of, bits, number, count, bytes, content, refused, found}

pub record Row : Type 0 where
  pub asked : Question
  pub told : Answer

infixl 70 ◌gives◌
abbrev ◌gives◌ : Question → Answer → Row
q gives a = record { asked = q; told = a }

-- a word or marks, written in 0 and 1
abbrev word : String → List Bool
word text = map (λ c. nat_eq c 49) (codes text)

-- a count below zero
abbrev minus : ℕ → ℤ
minus n = neg_ℤ (pos n)

-- the piles
abbrev leaf : Reading Count
leaf = leaf_reading count_kind

abbrev split_over : Reading Count → Reading Count
split_over = split_reading count_kind

abbrev shortcut_over : Reading Count → Reading Count
shortcut_over = shortcut_reading count_kind count_score

abbrev exhaustive : ℕ → Reading Count
exhaustive = exhaustive_reading count_score

-- six symbols, the last two leaves active; counts from which the data 11 are read, and counts just as far from two codewords
abbrev six : List Bool
six = word "000011"

abbrev faded : Captured
faded = capture_of six (pos 127 ∷ pos 0 ∷ pos 0 ∷ pos 127 ∷ pos 0 ∷ minus 127 ∷ []) 3

abbrev halfway : Captured
halfway = capture_of six (pos 127 ∷ pos 127 ∷ pos 127 ∷ pos 127 ∷ minus 127 ∷ minus 127 ∷ []) 3

-- the bytes of the first
abbrev faded_bytes : List ℕ
faded_bytes = 0x01 ∷ 0x06 ∷ 0x03 ∷ 0x04 ∷ 0x02 ∷ 0xfe ∷ 0x01 ∷ 0x00 ∷ 0x00 ∷ 0xfe ∷ 0x01 ∷ 0x00 ∷ 0xfd ∷ 0x01 ∷ []

-- four symbols at which the piles differ
abbrev four : Captured
four = capture_of (word "0101") (minus 4 ∷ pos 1 ∷ pos 1 ∷ pos 1 ∷ []) 0

-- five symbols, the first leaf frozen
abbrev five : Captured
five = capture_of (word "01111") (pos 90 ∷ minus 20 ∷ pos 60 ∷ pos 5 ∷ pos 40 ∷ []) 0

-- one symbol, made of the datum 1
abbrev one : Captured
one = made_of top_count (word "1") (word "1") 0

-- the 32-bit float nearest to n / d, and to its opposite
abbrev level : ℕ → ℕ → Float
level n d = round binary32 false n d

abbrev minus_level : ℕ → ℕ → Float
minus_level n d = round binary32 true n d

abbrev pub table : List Row
table =
    -- codewords and weights
    codeword_of (single 9 4) (word "1") gives bits (word "110110000")
    ∷ codeword_of (single 9 8) (word "1") gives bits (word "111101111")
    ∷ weight_of (single 9 8) gives number 8
    ∷ codeword_of six (word "11") gives bits (word "011011")
    ∷ weight_of six gives number 4
    -- readings
    ∷ data_by (split_over leaf) faded gives bits (word "11")
    ∷ shortfall_of faded (word "11") gives number 381
    ∷ bound_of six gives number 508
    ∷ data_by (split_over leaf) halfway gives bits (word "00")
    ∷ shortfall_of halfway (word "11") gives number 508
    ∷ shortfall_of halfway (word "00") gives number 508
    ∷ data_by (split_over leaf) four gives bits (word "01")
    ∷ data_by (exhaustive 2) four gives bits (word "10")
    ∷ data_by (split_over (exhaustive 2)) four gives bits (word "10")
    ∷ word_by (shortcut_over leaf) five gives bits (word "01010")
    ∷ data_by (shortcut_over leaf) five gives bits (word "1010")
    -- a pile that does not take the plan
    ∷ data_by leaf faded gives refused 12 None
    ∷ data_by (exhaustive 1) four gives refused 12 None
    ∷ data_by (shortcut_over leaf) four gives refused 12 None
    -- an edit of a made capture
    ∷ bound_of (word "1") gives number 127
    ∷ data_after one 0 (Weaken 126) bench_reading gives bits (word "1")
    ∷ data_after one 0 (Weaken 127) bench_reading gives bits (word "0")
    ∷ data_after one 0 (Weaken 126) (split_over leaf) gives bits (word "1")
    ∷ data_after one 0 (Weaken 127) (split_over leaf) gives bits (word "0")
    -- the levels 0.0625, -0.0625 and 100
    ∷ count_from 3 (level 1 16) gives count (Some (pos 1))
    ∷ count_from 3 (minus_level 1 16) gives count (Some (minus 1))
    ∷ count_from 3 (level 100 1) gives count (Some (pos 127))
    -- stored captures, and what is printed of them
    ∷ bytes_of faded gives bytes faded_bytes
    ∷ load_of faded_bytes gives content (content_in faded)
    ∷ print_of faded_bytes gives bytes (codes "length 6\nactive 2\nweight 4\ndata 11\nshortfall 381 of 508\nagainst none\n")
    ∷ load_of (0x01 ∷ 0x00 ∷ []) gives refused 10 (Some 1)
    ∷ load_of (0x81 ∷ 0x00 ∷ []) gives refused 9 (Some 0)
    ∷ load_of (0x01 ∷ []) gives refused 8 (Some 1)
    ∷ print_of (0x01 ∷ 0x00 ∷ []) gives bytes (codes "refused 10 at 1\n")
    ∷ []

-- the answer to what is asked is the one that is told
abbrev pub Holds : Row → Type 0
Holds row = found row.asked ≡ row.told

abbrev pub EveryRowHolds : Type 0
EveryRowHolds = AllByRecursion Holds table
