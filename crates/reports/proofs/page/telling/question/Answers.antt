use Rattle.std.proofs.Common.{◌≡◌, ◌-◌, take, replicate, sym, ap, ◌∙◌}
use Rattle.polar.specs.Bytes.{bits, bytes}
use Rattle.polar.specs.Codewords.{codeword}
use Rattle.polar.specs.Plans.{marks_of}
use Rattle.polar.proofs.Codes.{bits_bytes}
use Rattle.polar.proofs.Dues.{some_due}
use Rattle.polar.proofs.PlanFacts.{sized}
use Rattle.captures.specs.Captures.{shortfall, first_against}
use Rattle.captures.specs.Tops.{top_count}
use Rattle.captures.specs.Views.{captured}
use Rattle.analyser.proofs.Rows.{codeword_front}
use Rattle.reports.proofs.Questions.{no_refusal, tells, told_few}
use Rattle.reports.proofs.page.telling.question.Goals as goal
use Rattle.reports.proofs.page.telling.question.Goals.{After-shortfall}

-- the questions are about the codeword
word_is : (c : After-shortfall) → take (c.length.result - 0) c.encode.new.out ≡ bytes (codeword (captured c.args.capture.now).marks_row (bits c.args.«data».now))
word_is c =
    let ms = marks_of c.plan-plan.result.now in
    codeword_front ms c.args.«data».now (replicate 4096 0) c.encode.new.out c.in_ok-encode.field-0 c.length.result (sized c.plan-plan.result.now).0 c.length.ensures c.in_ok-encode.ensures.value
    ∙ ap (λ m. bytes (codeword m (bits c.args.«data».now))) c.plan-plan.ensures

pub returns-in_err-shortfall : goal.returns-in_err-shortfall
returns-in_err-shortfall c =
    let s = c.args.capture.now in
    absurd (some_due _ (sym c.in_err-shortfall.ensures.0 ∙ no_refusal top_count (captured s).marks_row _ (bits c.args.«data».now) (sized s.plan).0 (word_is (goal.at.returns-in_err-shortfall c).After-shortfall)))

pub returns : goal.returns
returns c =
    let s = c.args.capture.now in
    let w = codeword (captured s).marks_row (bits c.args.«data».now) in
    let same : bits (take (c.length.result - 0) c.encode.new.out) ≡ w = ap bits (word_is (goal.at.returns c).After-shortfall) ∙ bits_bytes w in
    let due = tells (captured s) c.args.«data».now 4096 (rw (sym c.plan-plan.ensures) c.in_ok-encode.ensures.value.0) in
    record {
      value = (
        due,
        record {
          short_is = c.in_ok-shortfall.ensures.1 ∙ ap (shortfall top_count (captured s).count_row) same;
          against_is = c.in_ok-against.ensures.1 ∙ ap (first_against (captured s).count_row) same;
        },
      );
      few = told_few (captured s) c.args.«data».now (sized s.plan).1 due;
    }
