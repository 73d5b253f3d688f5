-- What lines of text take. Assumes nothing.
use Rattle.std.proofs.Common.{◌≡◌, ℕ, ◌+◌, ◌^◌, ◌<◌, ◌≤◌, Bool, List, [], ◌∷◌, ◌++◌, length, codes, decimal, sym, ap, ◌∙◌, append_assoc, append-nil, arith, length-append}
use lib.ListN.{length-map}
use Rattle.std.proofs.lemmas.Fmt.{length-decimal-le}
use Rattle.polar.specs.Words.{trues}
use Rattle.polar.specs.Marks.{weight}
use Rattle.polar.specs.Codewords.{tree_of}
use Rattle.polar.specs.Bytes.{bit, bits}
use Rattle.reports.specs.Report.{plan_lines}
use Rattle.reports.specs.Text.{line, lines, digit, digits}

-- no number has more than twenty digits
pub few_digits : (n : ℕ) → n < 2 ^ 64 → length (decimal n) ≤ 20
few_digits n h = length-decimal-le 20 n (omega arith) (omega arith) h

-- a line that ends in a number
pub number_line_fits : (head : List ℕ) (n : ℕ) → n < 2 ^ 64 → length (line (head ++ decimal n)) ≤ length head + 21
number_line_fits head n h = omega (arith, length-append (head ++ decimal n) (10 ∷ []), length-append head (decimal n), few_digits n h)

-- three lines, one put after another
pub three_lines : (a b c : List ℕ) → lines (a ∷ b ∷ c ∷ []) ≡ (line a ++ line b) ++ line c
three_lines a b c = ap (λ t. line a ++ (line b ++ t)) (append-nil (line c)) ∙ sym (append_assoc (line a) (line b) (line c))

pub digits_length : (word : List ℕ) → length (digits (bits word)) ≡ length word
digits_length word = length-map (bits word) digit ∙ length-map word bit

-- what the lines of a report take
pub plan_lines_fit : (ms : List Bool) → length ms < 2 ^ 64 → trues ms < 2 ^ 64 → weight (tree_of ms) ms < 2 ^ 64 → length (plan_lines ms) ≤ 84
plan_lines_fit ms n k d =
    let one = codes "length " ++ decimal (length ms) in
    let two = codes "active " ++ decimal (trues ms) in
    let three = codes "weight " ++ decimal (weight (tree_of ms) ms) in
    omega (
      arith,
      ap length (three_lines one two three),
      length-append (line one ++ line two) (line three),
      length-append (line one) (line two),
      number_line_fits (codes "length ") (length ms) n,
      number_line_fits (codes "active ") (trues ms) k,
      number_line_fits (codes "weight ") (weight (tree_of ms) ms) d,
    )

pub data_line_fits : (word : List ℕ) → length (line (codes "data " ++ digits (bits word))) ≤ length word + 6
data_line_fits word = omega (arith, length-append (codes "data " ++ digits (bits word)) (10 ∷ []), length-append (codes "data ") (digits (bits word)), digits_length word)

pub shortfall_line_fits : (s b : ℕ) → s < 2 ^ 64 → b < 2 ^ 64 → length (line (codes "shortfall " ++ decimal s ++ codes " of " ++ decimal b)) ≤ 55
shortfall_line_fits s b hs hb =
    let front = codes "shortfall " ++ decimal s in
    omega (arith, length-append (codes "shortfall ") (decimal s), length-append front (codes " of "), number_line_fits (front ++ codes " of ") b hb, few_digits s hs)
