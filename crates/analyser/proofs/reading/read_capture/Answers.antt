use Rattle.std.proofs.Common.{◌≡◌, map, length, None, sym, ap, ◌∙◌, subst, arith}
use Rattle.polar.specs.Plans.{TakenOut}
use Rattle.readers.specs.Blocks.{pile_due}
use Rattle.readers.proofs.Listing.{pile_facts, near_taken_out}
use Rattle.captures.specs.Views.{captured}
use Rattle.analyser.specs.Reading.{values_of}
use Rattle.analyser.proofs.CaptureReadings.{posed_capture}
use Rattle.analyser.proofs.reading.read_capture.Goals as goal

pub invariant_of-question : goal.invariant_of-question
invariant_of-question g c =
    let s = c.args.capture.now in
    let spoken = g.K.Spoken.spoken in
    let same : c.marks-marks.result.now ≡ (captured s).marks_row = c.marks-marks.ensures ∙ c.plan-plan.ensures in
    let is : c.put_values.new.values ≡ values_of spoken (captured s) = c.put_values.ensures ∙ ap (map spoken) c.counts.ensures in
    rw (same, is) record { posed = posed_capture g.K.Soft.kind spoken g.met.K.Spoken.fitting s }

pub read-requires : goal.read-requires
read-requires g c =
    let s = c.args.capture.now in
    let ms = (captured s).marks_row in
    let spoken = g.K.Spoken.spoken in
    let reading = g.R.Reader.reading c.args.reader.now in
    let same : c.marks-marks.result.now ≡ ms = c.marks-marks.ensures ∙ c.plan-plan.ensures in
    let due : pile_due reading ms (length c.args.soft.now) (length c.args.bits.now) None ≡ None = rw (sym c.plan-plan.ensures) c.in_ok-check_pile.ensures.0 in
    let facts = pile_facts g.K.Soft.kind reading ms (length c.args.soft.now) (length c.args.bits.now) due in
    let cut = c.split_at_mut-word.ensures in
    let half = c.split_at_mut-values.ensures in
    let long = ap length same in
    rw same record {
      taken = facts.0;
      out_room = cut.front_len ∙ long;
      soft_room = omega (arith, facts.3, half.back_len, long);
      bit_room = omega (arith, facts.4, cut.back_len, long);
      soft_told = facts.1;
      bits_told = facts.2;
    }

pub returns-clause-near : goal.returns-clause-near
returns-clause-near g c =
    let s = c.args.capture.now in
    let ms = (captured s).marks_row in
    let spoken = g.K.Spoken.spoken in
    let values = values_of spoken (captured s) in
    let reading = g.R.Reader.reading c.args.reader.now in
    let due : pile_due reading ms (length c.args.soft.now) (length c.args.bits.now) None ≡ None = rw (sym c.plan-plan.ensures) c.in_ok-check_pile.ensures.0 in
    let facts = pile_facts g.K.Soft.kind reading ms (length c.args.soft.now) (length c.args.bits.now) due in
    let is : c.put_values.new.values ≡ values = c.put_values.ensures ∙ ap (map spoken) c.counts.ensures in
    let same : c.marks-marks.result.now ≡ ms = c.marks-marks.ensures ∙ c.plan-plan.ensures in
    let word : c.read.new.out ≡ reading.answer ms 0 values = c.read.ensures ∙ ap (λ vs. reading.answer c.marks-marks.result.now 0 vs) is ∙ ap (λ m. reading.answer m 0 values) same in
    let taken : TakenOut ms c.read.new.out c.args.out.now c.take_out.result c.take_out.new.word c.take_out.new.out =
    subst (λ m. TakenOut m c.read.new.out c.args.out.now c.take_out.result c.take_out.new.word c.take_out.new.out) c.plan-plan.ensures c.take_out.ensures in
    near_taken_out g.K.Soft.kind reading (g.met.R.Reader.rules c.args.reader.now) ms values c.read.new.out c.args.out.now c.take_out.result c.take_out.new.word c.take_out.new.out facts.0 (posed_capture g.K.Soft.kind spoken g.met.K.Spoken.fitting s) word taken
