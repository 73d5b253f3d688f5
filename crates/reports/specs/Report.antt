-- The lines that are printed of a capture and the data read from it, and of a refusal. Assumes nothing.
use Rattle.std.specs.Prelude.{ℕ, Bool, List, [], ◌∷◌, ◌++◌, length, Some, None, codes, decimal, Option}
use Rattle.polar.specs.declared.refusal.Refusal.{Refusal}
use Rattle.polar.specs.Refusals.{number_of, place_of}
use Rattle.polar.specs.Words.{trues}
use Rattle.polar.specs.Marks.{weight}
use Rattle.polar.specs.Codewords.{tree_of, codeword}
use Rattle.captures.specs.Captures.{Captured, shortfall, first_against}
use Rattle.analyser.specs.Assurance.{bound}
use Rattle.reports.specs.Text.{line, lines, digits}

-- a place, or none
abbrev pub told_place : Option ℕ → List ℕ
told_place (Some place) = decimal place
told_place None = codes "none"

-- the figures of a plan
abbrev pub plan_lines : List Bool → List ℕ
plan_lines ms =
    lines (
    (codes "length " ++ decimal (length ms))
    ∷ (codes "active " ++ decimal (trues ms))
    ∷ (codes "weight " ++ decimal (weight (tree_of ms) ms))
    ∷ []
    )

-- the figures of the plan, the data, and what they say of the counts: the shortfall and the first contradicted place are those of the codeword of the data
abbrev pub report : ℕ → Captured → List Bool → List ℕ
report top c ds =
    let ms = c.marks_row in
    let word = codeword ms ds in
    plan_lines ms
    ++ lines (
    (codes "data " ++ digits ds)
    ∷ (codes "shortfall " ++ decimal (shortfall top c.count_row word) ++ codes " of " ++ decimal (bound top ms))
    ∷ (codes "against " ++ told_place (first_against c.count_row word))
    ∷ []
    )

-- the place follows where the refusal has one
abbrev pub told_at : Option ℕ → List ℕ
told_at (Some place) = codes " at " ++ decimal place
told_at None = []

abbrev pub refusal_report : Refusal → List ℕ
refusal_report why = line (codes "refused " ++ decimal (number_of why) ++ told_at (place_of why))
