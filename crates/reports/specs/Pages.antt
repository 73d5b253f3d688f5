-- A page by its text, and the report of a capture on it. Assumes nothing.
use Rattle.std.specs.Prelude.{◌≡◌, ℕ, Bool, ◌&&◌, List, length, None, vec_items, Option, ◌==◌}
use Rattle.polar.specs.declared.refusal.Refusal.{Refusal}
use Rattle.polar.specs.declared.refusal.Refusal.TheVariants.{Data}
use Rattle.polar.specs.Refusals.{Outcome, refused_unless}
use Rattle.polar.specs.Words.{trues}
use Rattle.polar.specs.Bytes.{all_bits, bits}
use Rattle.polar.specs.Codewords.{codeword}
use Rattle.captures.specs.Captures.{Captured, shortfall, first_against}
use Rattle.captures.specs.Calls.{Answer}
use Rattle.reports.specs.declared.page.Page.{Page}
use Rattle.reports.specs.Report.{report}

abbrev pub text_on : Page → List ℕ
text_on page = vec_items page.text

-- telling of a capture: as many data as active leaves, each 0 or 1
abbrev pub tell_due : Captured → List ℕ → Option Refusal
tell_due c ds = refused_unless (length ds == trues c.marks_row && all_bits ds) Data None

-- what is asked of a capture: how far it falls short of the codeword of the data, and the first place that contradicts it
pub record Asked (top : ℕ) (c : Captured) (ds : List Bool) (short : ℕ) (against : Option ℕ) : Type 0 where
  pub short_is : short ≡ shortfall top c.count_row (codeword c.marks_row ds)
  pub against_is : against ≡ first_against c.count_row (codeword c.marks_row ds)

abbrev pub Told : ℕ → Page → Captured → List ℕ → Answer → Page → Type 0
Told top before c ds answer after = Outcome (tell_due c ds) answer (λ _. text_on after ≡ report top c (bits ds)) (after ≡ before)
