use Rattle.std.proofs.Common.{◌≡◌, Ok, sym, ap, ◌∙◌, arith}
use Rattle.std.proofs.lemmas.List.{take_at, length-take-le}
use Rattle.std.proofs.lemmas.Result.{IfOk-from_err}
use Rattle.storage.specs.Contents.{top_count}
use Rattle.storage.specs.Reading.{got, field_at, marks_at, counts_at}
use Rattle.storage.specs.Cursors.{rest}
use Rattle.storage.proofs.Outcomes.{no_version, no_length, no_exponent, no_marks, no_counts, outcome_is, at_start, ends_alike, ends_well, fronts_exit, content_alike}
use Rattle.storage.proofs.loading.read_rows.Goals as goal
use Rattle.storage.proofs.loading.read_rows.Goals.{In_ok-field, In_ok-marks, In_ok-counts}

first : (c : In_ok-field) → field_at 1 1 0 c.args.bytes.now ≡ got c.in_ok-field.field-0 c.field.new.self.at (rest c.field.new.self)
first c = at_start (field_at 1 1) c.new-input.result _ c.new-input.ensures.0 c.new-input.ensures.1 ∙ c.in_ok-field.ensures.reads

pub returns-in_err-field : goal.returns-in_err-field
returns-in_err-field c = record {
  fronts = fronts_exit top_count _ _ _ c.from_residual.result c.from_residual.ensures.1
      (no_version top_count _ (at_start (field_at 1 1) c.new-input.result _ c.new-input.ensures.0 c.new-input.ensures.1 ∙ c.in_err-field.ensures.reads));
  sized = IfOk-from_err _ _ c.from_residual.ensures.0;
}

pub returns-in_err-length : goal.returns-in_err-length
returns-in_err-length c = record {
  fronts = fronts_exit top_count _ _ _ c.from_residual-in_err-length.result c.from_residual-in_err-length.ensures.1
      (no_length top_count _ (first (goal.at.returns-in_err-length c).In_ok-field) c.in_err-length.ensures.reads);
  sized = IfOk-from_err _ _ c.from_residual-in_err-length.ensures.0;
}

pub returns-in_err-exponent : goal.returns-in_err-exponent
returns-in_err-exponent c = record {
  fronts = fronts_exit top_count _ _ _ c.from_residual-in_err-exponent.result c.from_residual-in_err-exponent.ensures.1
      (no_exponent top_count _ (first (goal.at.returns-in_err-exponent c).In_ok-field) c.in_ok-length.ensures.reads (rw c.from.ensures at c.in_err-exponent.ensures.reads));
  sized = IfOk-from_err _ _ c.from_residual-in_err-exponent.ensures.0;
}

pub returns-in_err-marks : goal.returns-in_err-marks
returns-in_err-marks c =
    let d = c.field-3.new.self in
    let n = c.in_ok-length.field-0 in
    let long = length-take-le n c.args.marks.now (omega (arith, c.requires.0, c.in_ok-length.ensures.within.1)) in
    let read = ap (λ n. marks_at n d.at (rest d)) (sym long) ∙ c.in_err-marks.ensures in
    record {
      fronts = fronts_exit top_count _ _ _ c.from_residual-in_err-marks.result c.from_residual-in_err-marks.ensures.1
          (no_marks top_count _ (first (goal.at.returns-in_err-marks c).In_ok-field) c.in_ok-length.ensures.reads (rw c.from.ensures at c.in_ok-exponent.ensures.reads) read);
      sized = IfOk-from_err _ _ c.from_residual-in_err-marks.ensures.0;
    }

marked : (c : In_ok-marks) → marks_at c.in_ok-length.field-0 c.field-3.new.self.at (rest c.field-3.new.self) ≡ got c.marks.new.marks c.marks.new.self.at (rest c.marks.new.self)
marked c =
    let d = c.field-3.new.self in
    let long = length-take-le c.in_ok-length.field-0 c.args.marks.now (omega (arith, c.requires.0, c.in_ok-length.ensures.within.1)) in
    ap (λ n. marks_at n d.at (rest d)) (sym long) ∙ c.in_ok-marks.ensures

pub returns-in_err-counts : goal.returns-in_err-counts
returns-in_err-counts c =
    let d = c.marks.new.self in
    let n = c.in_ok-length.field-0 in
    let long = length-take-le n c.args.counts.now (omega (arith, c.requires.1, c.in_ok-length.ensures.within.1)) in
    let read = ap (λ n. counts_at top_count n d.at (rest d)) (sym long) ∙ c.in_err-counts.ensures in
    record {
      fronts = fronts_exit top_count _ _ _ c.from_residual-in_err-counts.result c.from_residual-in_err-counts.ensures.1
          (no_counts top_count _ (first (goal.at.returns-in_err-counts c).In_ok-field) c.in_ok-length.ensures.reads (rw c.from.ensures at c.in_ok-exponent.ensures.reads) (marked (goal.at.returns-in_err-counts c).In_ok-marks) read);
      sized = IfOk-from_err _ _ c.from_residual-in_err-counts.ensures.0;
    }

counted : (c : In_ok-counts) → counts_at top_count c.in_ok-length.field-0 c.marks.new.self.at (rest c.marks.new.self) ≡ got c.counts.new.counts c.counts.new.self.at (rest c.counts.new.self)
counted c =
    let d = c.marks.new.self in
    let long = length-take-le c.in_ok-length.field-0 c.args.counts.now (omega (arith, c.requires.1, c.in_ok-length.ensures.within.1)) in
    ap (λ n. counts_at top_count n d.at (rest d)) (sym long) ∙ c.in_ok-counts.ensures

pub returns-in_err-end : goal.returns-in_err-end
returns-in_err-end c =
    let at = goal.at.returns-in_err-end c in
    record {
      fronts = fronts_exit top_count _ _ _ c.from_residual-in_err-end.result c.from_residual-in_err-end.ensures.1
          (outcome_is top_count _ (first at.In_ok-field) c.in_ok-length.ensures.reads (rw c.from.ensures at c.in_ok-exponent.ensures.reads) (marked at.In_ok-marks) (counted at.In_ok-counts)
          ∙ ends_alike tt _ _ _ c.in_err-end.ensures);
      sized = IfOk-from_err _ _ c.from_residual-in_err-end.ensures.0;
    }

pub returns : goal.returns
returns c =
    let at = goal.at.returns c in
    let n = c.in_ok-length.field-0 in
    let sized = c.in_ok-length.ensures.within in
    let marks_long = c.marks.auto.marks ∙ length-take-le n c.args.marks.now (omega (arith, c.requires.0, sized.1)) in
    let counts_long = c.counts.auto.counts ∙ length-take-le n c.args.counts.now (omega (arith, c.requires.1, sized.1)) in
    record {
      fronts = outcome_is top_count _ (first at.In_ok-field) c.in_ok-length.ensures.reads (rw c.from.ensures at c.in_ok-exponent.ensures.reads) (marked at.In_ok-marks) (counted at.In_ok-counts)
          ∙ ends_well tt tt _ _ _ c.in_ok-end.ensures
          ∙ ap Ok (content_alike _ (sym (take_at c.marks.new.marks _ n marks_long)) (sym (take_at c.counts.new.counts _ n counts_long)));
      sized = sized;
    }
