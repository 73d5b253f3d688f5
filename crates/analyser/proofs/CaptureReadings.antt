-- A capture is a list of values that fit, as it is given to a reader. Assumes nothing.
use Rattle.std.proofs.Common.{◌≡◌, ℕ, suc, cond, List, [], ◌∷◌, map, length, ℤ, Some, None, sym, refl, ap, ◌∙◌, mul-one}
use lib.ListN.{length-map}
use Rattle.std.specs.Option.{option_map}
use Rattle.soft.specs.Kind.{Kind}
use Rattle.readers.specs.Readings.{Posed}
use Rattle.readers.specs.Blocks.{first_unfit}
use Rattle.readers.proofs.Listing.{all_fit_from}
use Rattle.polar.proofs.PlanFacts.{sized}
use Rattle.levels.specs.Rows.{AllWithin}
use Rattle.captures.specs.declared.capture.Capture.{Capture}
use Rattle.captures.specs.Tops.{top_count}
use Rattle.captures.specs.Views.{captured}
use Rattle.captures.proofs.Counts.{all_from_within}
use Rattle.analyser.specs.Reading.{AllSpeak, values_of}

all_speak : {K : Type 0} (top : ℕ) (kind : Kind K) (spoken : ℤ → K) → AllSpeak top kind spoken → (counts : List ℤ) → AllWithin top counts → first_unfit kind (map spoken counts) ≡ None
all_speak top kind spoken law [] all = refl
all_speak top kind spoken law (v ∷ counts) all =
    ap (λ b. cond b (option_map suc (first_unfit kind (map spoken counts))) (Some 0)) (law v all.0)
    ∙ ap (option_map suc) (all_speak top kind spoken law counts all.1)

-- a capture has a count for each symbol
paired : (s : Capture) → length (captured s).count_row ≡ length (captured s).marks_row
paired s = sym s.counts.ok.0 ∙ s.same ∙ s.plan.marks.ok.0

-- so its values are a list that a reader can be given
pub posed_capture : {K : Type 0} (kind : Kind K) (spoken : ℤ → K) → AllSpeak top_count kind spoken → (s : Capture) → Posed kind (captured s).marks_row 0 (values_of spoken (captured s))
posed_capture kind spoken law s =
    let counts = (captured s).count_row in
    let size = sized s.plan in
    record { some = size.0; short = rw mul-one size.1; same = length-map counts spoken ∙ paired s; fits = all_fit_from kind (values_of spoken (captured s)) (all_speak top_count kind spoken law counts (all_from_within top_count counts s.within)) }
