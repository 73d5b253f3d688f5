-- What a reading by counts into the longest row gives. Assumes nothing.
use Rattle.std.proofs.Common.{◌≡◌, ℕ, ◌-◌, ◌≤◌, Bool, List, length, take, nat_abs, IfOk, IsOk, None, Ok, Err, Result, refl, sym, ap, ◌∙◌, length-take-le}
use native.Mathlib.Nat.{sub-zero}
use Rattle.std.proofs.lemmas.Bool.{eq-eqb, le-leb}
use Rattle.polar.specs.declared.refusal.Refusal.{Refusal}
use Rattle.polar.specs.Refusals.{Outcome}
use Rattle.polar.specs.Words.{trues}
use Rattle.polar.specs.Bytes.{bits, bytes}
use Rattle.polar.proofs.Codes.{bits_bytes}
use Rattle.polar.proofs.Dues.{some_due}
use Rattle.soft.specs.declared.count.Count.{Count}
use Rattle.soft.specs.Counts.{counted, count_kind}
use Rattle.readers.specs.Readings.{Reading, ReaderRules}
use Rattle.readers.specs.Blocks.{Buffers, pile_due, output_due}
use Rattle.readers.proofs.Listing.{pile_facts}
use Rattle.captures.specs.declared.capture.Capture.{Capture}
use Rattle.captures.specs.Captures.{Captured}
use Rattle.captures.specs.Calls.{Answer}
use Rattle.captures.specs.Tops.{top_count}
use Rattle.captures.specs.Views.{captured}
use Rattle.analyser.specs.Assurance.{LightHistoriesReadTrue}
use Rattle.analyser.specs.Comparing.{data_kept}
use Rattle.analyser.specs.Reading.{CaptureRead, values_of}
use Rattle.analyser.proofs.CaptureReadings.{posed_capture}
use Rattle.analyser.proofs.Comparisons.{front_data, output_never, planned}
use Rattle.analyser.proofs.Rows.{all_bits_bytes}
use Rattle.reports.specs.declared.page.Page.{Page}
use Rattle.reports.specs.Pages.{text_on, tell_due, Told}
use Rattle.reports.specs.Report.{report}
use Rattle.reports.specs.Printed.{LightHistoriesPrintTrue}

module _ (reading : Reading Count) (s : Capture) (before : Buffers Count) (room : length before.output ≡ 4096) where
  abbrev pub ms : List Bool
  ms = (captured s).marks_row

  -- the longest row has room for all data, so only the pile can be refused
  open_due : pile_due reading ms (length before.soft_row) (length before.bit_row) (output_due ms (length before.output)) ≡ pile_due reading ms (length before.soft_row) (length before.bit_row) None
  open_due = ap (pile_due reading ms (length before.soft_row) (length before.bit_row)) (ap (output_due ms) room ∙ output_never ms (planned s))

  pub read_due : (answer : Result ℕ Refusal) (after : Buffers Count) → CaptureRead reading (captured s) (values_of counted (captured s)) before answer after
      → Outcome (pile_due reading ms (length before.soft_row) (length before.bit_row) None) answer (λ _. Unit {0}) (Unit {0})
  read_due (Ok k) after read = (sym open_due ∙ read.0, tt)
  read_due (Err e) after read = (sym open_due ∙ read.0, tt)

  -- the data stand in the front
  pub read_data : ReaderRules count_kind reading → (answer : Result ℕ Refusal) (after : Buffers Count) → CaptureRead reading (captured s) (values_of counted (captured s)) before answer after
      → IfOk answer (λ k. (k ≡ trues ms) × (take k after.output ≡ bytes (data_kept reading (captured s))))
  read_data rules (Ok k) after read =
      let taken = (pile_facts count_kind reading ms (length before.soft_row) (length before.bit_row) (sym open_due ∙ read.0)).0 in
      let posed = posed_capture count_kind counted (λ v small. le-leb (nat_abs v) top_count small) s in
      (read.1.0, front_data count_kind reading rules ms (values_of counted (captured s)) before.output after.output k taken posed read.1)
  read_data rules (Err e) after read = tt

-- the data read of a capture can be told, and the page has their report then
pub tells_read : (top : ℕ) (c : Captured) (row : List ℕ) (ds : List Bool) (k : ℕ) (before : Page) (answer : Answer) (after : Page) → k ≡ trues c.marks_row → k ≤ length row → take k row ≡ bytes ds
    → Told top before c (take (k - 0) row) answer after → IsOk answer × (text_on after ≡ report top c ds)
tells_read top c row ds k before (Ok u) after many room front told = (refl, told.1 ∙ ap (λ w. report top c (bits w)) (ap (λ n. take n row) (sub-zero k) ∙ front) ∙ ap (report top c) (bits_bytes ds))
tells_read top c row ds k before (Err e) after many room front told =
    let given : take (k - 0) row ≡ bytes ds = ap (λ n. take n row) (sub-zero k) ∙ front in
    let size : length (bytes ds) ≡ k = sym (ap length front) ∙ length-take-le k row room in
    let due : tell_due c (bytes ds) ≡ None = rw (eq-eqb (length (bytes ds)) (trues c.marks_row) (size ∙ many), all_bits_bytes ds) in
    absurd (some_due e (sym told.0 ∙ ap (tell_due c) given ∙ due))

-- and where the history is light they are the sender's
pub prints_true : (top : ℕ) (c : Captured) (row : List ℕ) (ds : List Bool) (k : ℕ) (text : List ℕ) → take k row ≡ bytes ds → text ≡ report top c ds → LightHistoriesReadTrue top c (take k row) → LightHistoriesPrintTrue top c text
prints_true top c row ds k text front is light place start ms e sent past plan makes history under =
    is ∙ ap (report top c) (sym (bits_bytes ds) ∙ ap bits (sym front ∙ light place start ms e sent past plan makes history under))
