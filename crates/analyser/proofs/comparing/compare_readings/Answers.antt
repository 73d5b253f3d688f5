use Rattle.std.proofs.Common.{◌≡◌, List, ℕ, length, take, replicate, nat_abs, None, Some, sym, ap, ◌∙◌, subst}
use native.Mathlib.Nat.{sub-zero}
use Rattle.std.proofs.lemmas.Bool.{le-leb}
use Rattle.std.proofs.lemmas.Bool.Decides.{Decides-eqb}
use Rattle.std.proofs.lemmas.Slice.Eq.{slice_eq-Decides}
use Rattle.polar.specs.Bytes.{bytes}
use Rattle.soft.specs.Counts.{counted, count_kind}
use Rattle.readers.specs.Blocks.{Buffers, pile_due, list_due, output_due, DataWritten}
use Rattle.readers.proofs.Listing.{pile_facts, posed_list}
use Rattle.captures.specs.Tops.{top_count}
use Rattle.captures.specs.Views.{captured}
use Rattle.analyser.specs.Assurance.{LightHistoriesReadTrue}
use Rattle.analyser.specs.Reading.{values_of}
use Rattle.analyser.specs.Comparing.{data_read, data_kept, lent}
use Rattle.analyser.proofs.CaptureReadings.{posed_capture}
use Rattle.analyser.proofs.Comparisons.{refused, planned, pile_passes, output_never, list_passes, front_data, same_data}
use Rattle.analyser.proofs.comparing.compare_readings.Goals as goal
use Rattle.analyser.proofs.comparing.compare_readings.Goals.{In_ok-check_pile, After-eq}
use Rattle.analyser.proofs.comparing.compare_readings.Given.{Over}

-- the pile for the capture is accepted
accepted : (g : Over) (c : In_ok-check_pile g) → pile_due (g.R.Reader.reading c.args.kept_reader.now) (captured c.args.capture.now).marks_row (length c.args.counts.now) (length c.args.bits.now) None ≡ None
accepted g c = rw (sym c.plan-plan.ensures) c.in_ok-check_pile.ensures.0

-- the list is looked at next
next : (g : Over) (c : In_ok-check_pile g) →
    let ms = (captured c.args.capture.now).marks_row in
    let fresh = g.P.Reader.reading c.args.fresh_reader.now in
    let list = list_due g.K.Soft.kind g.K.Listed.unfit ms c.args.values.now in
    pile_due (g.R.Reader.reading c.args.kept_reader.now) ms (length c.args.counts.now) (length c.args.bits.now) (list (pile_due fresh ms (length c.args.soft.now) (length c.args.bits.now) None))
    ≡ list (pile_due fresh ms (length c.args.soft.now) (length c.args.bits.now) (output_due ms 4096))
next g c =
    let s = c.args.capture.now in
    let ms = (captured s).marks_row in
    let fresh = g.P.Reader.reading c.args.fresh_reader.now in
    pile_passes (g.R.Reader.reading c.args.kept_reader.now) ms (length c.args.counts.now) (length c.args.bits.now) _ (accepted g c)
    ∙ ap (λ o. list_due g.K.Soft.kind g.K.Listed.unfit ms c.args.values.now (pile_due fresh ms (length c.args.soft.now) (length c.args.bits.now) o)) (sym (output_never ms (planned s)))

-- what is read of the capture
kept_data : (g : Over) (c : After-eq g) → take c.in_ok-kept_len.kept_len c.read_counts.new.out ≡ bytes (data_kept (g.R.Reader.reading c.args.kept_reader.now) (captured c.args.capture.now))
kept_data g c =
    let s = c.args.capture.now in
    let now = captured s in
    let kept = g.R.Reader.reading c.args.kept_reader.now in
    let due = accepted g (goal.at.returns-clause-value g c).In_ok-check_pile in
    front_data count_kind kept (g.met.R.Reader.rules c.args.kept_reader.now) now.marks_row (values_of counted now) (replicate 4096 0) c.read_counts.new.out c.in_ok-kept_len.kept_len
    (pile_facts count_kind kept now.marks_row (length c.args.counts.now) (length c.args.bits.now) due).0
    (posed_capture count_kind counted (λ v small. le-leb (nat_abs v) top_count small) s) c.in_ok-kept_len.ensures.value.1

pub returns-in_err-fresh_len-clause-value : goal.returns-in_err-fresh_len-clause-value
returns-in_err-fresh_len-clause-value g c =
    let ms = (captured c.args.capture.now).marks_row in
    let fresh = g.P.Reader.reading c.args.fresh_reader.now in
    let due : list_due g.K.Soft.kind g.K.Listed.unfit ms c.args.values.now (pile_due fresh ms (length c.args.soft.now) (length c.args.bits.now) (output_due ms 4096)) ≡ Some _ =
    rw (sym c.plan-plan.ensures) c.in_err-fresh_len.ensures.value.0 in
    refused _ _ _ c.from_residual-in_err-fresh_len.result c.from_residual-in_err-fresh_len.ensures.1
    (next g (goal.at.returns-in_err-fresh_len-clause-value g c).In_ok-check_pile ∙ due)
    (ap (λ (b : Buffers _). lent b.soft_row c.args.counts.now b.bit_row) c.in_err-fresh_len.ensures.value.1)

pub returns-clause-value : goal.returns-clause-value
returns-clause-value g c =
    let s = c.args.capture.now in
    let now = captured s in
    let ms = now.marks_row in
    let kind = g.K.Soft.kind in
    let values = c.args.values.now in
    let fresh = g.P.Reader.reading c.args.fresh_reader.now in
    let soft_len = length c.args.soft.now in
    let bits_len = length c.args.bits.now in
    let list : list_due kind g.K.Listed.unfit ms values (pile_due fresh ms soft_len bits_len (output_due ms 4096)) ≡ None = rw (sym c.plan-plan.ensures) c.in_ok-fresh_len.ensures.value.0 in
    let read : DataWritten fresh ms values (replicate 4096 0) c.read_list.new.out c.in_ok-fresh_len.fresh_len = rw (sym c.plan-plan.ensures) c.in_ok-fresh_len.ensures.value.1 in
    let passes = list_passes kind g.K.Listed.unfit ms values _ list in
    let fresh_data : take c.in_ok-fresh_len.fresh_len c.read_list.new.out ≡ bytes (data_read fresh ms values) =
    front_data kind fresh (g.met.P.Reader.rules c.args.fresh_reader.now) ms values (replicate 4096 0) c.read_list.new.out c.in_ok-fresh_len.fresh_len
    (pile_facts kind fresh ms soft_len bits_len (ap (pile_due fresh ms soft_len bits_len) (sym (output_never ms (planned s))) ∙ passes.1)).0 (posed_list kind g.K.Listed.unfit s.plan values passes.0) read in
    let from_front = λ (n : ℕ) (row : List ℕ). ap (λ k. take k row) (sub-zero n) in
    let fresh_front = from_front c.in_ok-fresh_len.fresh_len c.read_list.new.out ∙ fresh_data in
    let kept_front = from_front c.in_ok-kept_len.kept_len c.read_counts.new.out ∙ kept_data g c in
    let decides = slice_eq-Decides Decides-eqb _ _ c.eq.result c.eq.ensures in (
      next g (goal.at.returns-clause-value g c).In_ok-check_pile ∙ list,
      (
        λ t. same_data (data_read fresh ms values) (data_kept (g.R.Reader.reading c.args.kept_reader.now) now) (sym fresh_front ∙ decides.0 t ∙ kept_front),
        λ e. decides.1 (fresh_front ∙ ap bytes e ∙ sym kept_front),
      ),
    )

pub returns-clause-light : goal.returns-clause-light
returns-clause-light g c = subst (LightHistoriesReadTrue top_count (captured c.args.capture.now)) (kept_data g c) c.in_ok-kept_len.ensures.light
