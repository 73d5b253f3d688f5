-- Comparing: which refusal is due, and what the two readings say. Assumes nothing.
use Rattle.std.proofs.Common.{◌≡◌, ℕ, Bool, true, false, eqb, ltb, List, length, take, drop, Some, None, Ok, Err, Option, Result, sym, refl, ap, ◌∙◌, arith}
use Rattle.std.specs.Result.{IsErrAnd}
use Rattle.std.proofs.lemmas.Bool.{le-ltb}
use Rattle.polar.specs.declared.refusal.Refusal.{Refusal}
use Rattle.polar.specs.declared.refusal.Refusal.TheVariants.{WorkingRoom, Output, NotTaken, ItemCount}
use Rattle.polar.specs.Refusals.{Outcome, refused_unless}
use Rattle.polar.specs.Words.{trues}
use Rattle.polar.specs.Bytes.{bits, bytes}
use Rattle.polar.specs.Codewords.{tree_of}
use Rattle.polar.proofs.Dues.{some_due, unless_none, unless_passes, if_passes}
use Rattle.polar.proofs.Shapes.{leaves_balanced}
use Rattle.polar.proofs.Label.{length_unlabel}
use Rattle.polar.proofs.Active.{length_collect}
use Rattle.polar.proofs.Codes.{bits_bytes, front_bytes}
use Rattle.polar.proofs.Sums.{trues_bound}
use Rattle.polar.proofs.PlanFacts.{sized}
use Rattle.soft.specs.Kind.{Kind}
use Rattle.readers.specs.Readings.{Reading, ReaderRules, Posed}
use Rattle.readers.specs.Blocks.{first_unfit, unfit_due, list_due, pile_due, output_due, DataWritten}
use Rattle.captures.specs.declared.capture.Capture.{Capture}
use Rattle.captures.specs.Tops.{top_count}
use Rattle.captures.specs.Views.{captured}
use Rattle.analyser.specs.Assurance.{Planned, BoundCannotBeRaised}
use Rattle.analyser.specs.Comparing.{data_read}
use Rattle.analyser.proofs.Raised.{cannot_be_raised}

-- the exit of a `?`
pub refused : {X : Type 0} (accepted : X → Type 0) (kept : Type 0) {why : Refusal} (due : Option Refusal) (r : Result X Refusal) → IsErrAnd r (λ y. y ≡ why) → due ≡ Some why → kept → Outcome due r accepted kept
refused accepted kept due (Ok x) by is same = absurd by
refused accepted kept due (Err e) by is same = (is ∙ ap Some (sym by), same)

module _ {K : Type 0} (reading : Reading K) (ms : List Bool) (soft_places bit_places : ℕ) where
  -- a pile that is accepted leaves what is looked for next
  pub pile_passes : (later : Option Refusal) → pile_due reading ms soft_places bit_places None ≡ None → pile_due reading ms soft_places bit_places later ≡ later
  pile_passes later none =
      let taken = unless_none (reading.taking ms) NotTaken _ none in
      let room = unless_none _ WorkingRoom None taken.1 in
      unless_passes (reading.taking ms) NotTaken _ taken.0 ∙ unless_passes _ WorkingRoom later room.0

pub planned : (s : Capture) → Planned (captured s).marks_row
planned s = let size = sized s.plan in record { some = size.0; short = size.1; active = size.2 }

-- nor can the bound of a capture's plan be raised
pub raised_never : (s : Capture) → BoundCannotBeRaised top_count (captured s).marks_row
raised_never s = cannot_be_raised top_count (captured s).marks_row (planned s)

-- the longest row has room for all data
pub output_never : (ms : List Bool) → Planned ms → output_due ms 4096 ≡ None
output_never ms plan = if_passes (ltb 4096 (trues ms)) Output None (le-ltb 4096 (trues ms) (omega (arith, trues_bound ms, plan.short)))

-- a list that is accepted is so whatever is looked for next, and nothing that is looked for next refuses
pub list_passes : {K : Type 0} (kind : Kind K) (unfit : ℕ → Refusal) (ms : List Bool) (values : List K) (later : Option Refusal) → list_due kind unfit ms values later ≡ None
    → (list_due kind unfit ms values None ≡ None) × (later ≡ None)
list_passes kind unfit ms values later none = by (eqb (length values) (length ms)) (first_unfit kind values) none
  where
    by : (same : Bool) (o : Option ℕ) → refused_unless same ItemCount (unfit_due unfit o later) ≡ None → (refused_unless same ItemCount (unfit_due unfit o None) ≡ None) × (later ≡ None)
    by true None h = (refl, h)
    by true (Some place) h = absurd (some_due (unfit place) h)
    by false o h = absurd (some_due ItemCount h)

-- the front of an output is the data of the pile's answer
pub front_data : {K : Type 0} (kind : Kind K) (reading : Reading K) → ReaderRules kind reading → (ms : List Bool) (values : List K) (before after : List ℕ) (k : ℕ)
    → reading.taking ms ≡ true → Posed kind ms 0 values → DataWritten reading ms values before after k → take k after ≡ bytes (data_read reading ms values)
front_data kind reading rules ms values before after k taken posed written =
    let code = rules.answers_label ms 0 values taken posed in
    let size = leaves_balanced (length ms) posed.some in
    let long : length (data_read reading ms values) ≡ k = length_collect ms _ (length_unlabel (tree_of ms) (reading.answer ms 0 values) code.0 ∙ size) ∙ sym written.0 in
    ap (take k) written.1 ∙ front_bytes (data_read reading ms values) (drop k before) k long

pub same_data : (one other : List Bool) → bytes one ≡ bytes other → one ≡ other
same_data one other e = sym (bits_bytes one) ∙ ap bits e ∙ bits_bytes other
