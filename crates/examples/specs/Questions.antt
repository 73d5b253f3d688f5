-- What an example asks, and the answer, by the definitions that the libraries' contracts cite. Assumes nothing.
use Rattle.std.specs.Prelude.{ℕ, Bool, List, ℤ, Some, None, Ok, Err, Option, Result, Float}
use Rattle.polar.specs.declared.refusal.Refusal.{Refusal}
use Rattle.polar.specs.Refusals.{number_of, place_of}
use Rattle.polar.specs.Marks.{weight}
use Rattle.polar.specs.Codewords.{tree_of, codeword}
use Rattle.soft.specs.declared.count.Count.{Count}
use Rattle.soft.specs.Counts.{counted}
use Rattle.readers.specs.Readings.{Reading, most_places}
use Rattle.readers.specs.Blocks.{pile_due}
use Rattle.levels.specs.Level.{count_of}
use Rattle.storage.specs.Contents.{Content}
use Rattle.storage.specs.Reading.{outcome}
use Rattle.captures.specs.declared.edit.Edit.{Edit}
use Rattle.captures.specs.Tops.{top_count}
use Rattle.captures.specs.Captures.{Captured, shortfall}
use Rattle.captures.specs.Calls.{edit_due, edited_at, saved_bytes}
use Rattle.analyser.specs.Reading.{values_of}
use Rattle.analyser.specs.Comparing.{data_kept}
use Rattle.analyser.specs.Assurance.{bound}
use Rattle.reports.specs.Printed.{printed}

pub data Question : Type 0 where
  -- the codeword by marks of data
  codeword_of : List Bool → List Bool → Question
  -- the weight of a plan with these marks
  weight_of : List Bool → Question
  -- the word that a pile answers for a capture, and its data
  word_by : Reading Count → Captured → Question
  data_by : Reading Count → Captured → Question
  -- the data that a pile reads once a place is edited
  data_after : Captured → ℕ → Edit → Reading Count → Question
  -- the shortfall of a capture from the codeword of data
  shortfall_of : Captured → List Bool → Question
  -- the shortfall that can mislead a reading, by the marks of a plan
  bound_of : List Bool → Question
  -- the count of a level at an exponent
  count_from : ℕ → Float → Question
  -- the bytes that a capture is stored as, what bytes load as, and what the bench program prints of them
  bytes_of : Captured → Question
  load_of : List ℕ → Question
  print_of : List ℕ → Question

pub data Answer : Type 0 where
  bits : List Bool → Answer
  number : ℕ → Answer
  count : Option ℤ → Answer
  bytes : List ℕ → Answer
  content : Content → Answer
  -- a refusal by its number, and the place that it speaks of
  refused : ℕ → Option ℕ → Answer

abbrev refused_with : Refusal → Answer
refused_with why = refused (number_of why) (place_of why)

-- an answer where no refusal is due
abbrev unless : Option Refusal → Answer → Answer
unless (Some why) answer = refused_with why
unless None answer = answer

abbrev loaded : Result Content Refusal → Answer
loaded (Ok c) = content c
loaded (Err why) = refused_with why

-- a pile's answer counts where the pile takes the plan
abbrev read_by : Reading Count → Captured → List Bool → Answer
read_by pile c word = unless (pile_due pile c.marks_row most_places most_places None) (bits word)

abbrev pub found : Question → Answer
found (codeword_of ms ds) = bits (codeword ms ds)
found (weight_of ms) = number (weight (tree_of ms) ms)
found (word_by pile c) = read_by pile c (pile.answer c.marks_row 0 (values_of counted c))
found (data_by pile c) = read_by pile c (data_kept pile c)
found (data_after c place edit pile) =
    unless (edit_due top_count c place edit)
    (let after = edited_at top_count c place edit in
    read_by pile after (data_kept pile after))
found (shortfall_of c ds) = number (shortfall top_count c.count_row (codeword c.marks_row ds))
found (bound_of ms) = number (bound top_count ms)
found (count_from k level) = count (count_of top_count k level)
found (bytes_of c) = bytes (saved_bytes top_count c)
found (load_of input) = loaded (outcome top_count input)
found (print_of input) = bytes (printed input)
