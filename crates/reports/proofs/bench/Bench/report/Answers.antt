use Rattle.std.proofs.Common.{◌≡◌, ℕ, ◌≤◌, length, take, IsOk, refl, subst, arith}
use Rattle.polar.specs.Bytes.{bytes}
use Rattle.polar.proofs.PlanFacts.{sized}
use Rattle.polar.proofs.Sums.{trues_bound}
use Rattle.soft.specs.Counts.{count_kind, count_score}
use Rattle.readers.specs.SplitReading.{split_reading}
use Rattle.scored_readers.specs.ExhaustiveReading.{exhaustive_reading}
use Rattle.scored_readers.specs.ShortcutReading.{shortcut_reading}
use Rattle.captures.specs.Tops.{top_count}
use Rattle.captures.specs.Views.{captured}
use Rattle.analyser.specs.Comparing.{data_kept}
use Rattle.reports.specs.Pages.{text_on}
use Rattle.reports.specs.Printed.{bench_reading}
use Rattle.reports.specs.Report.{report}
use Rattle.reports.proofs.Readings.{tells_read, prints_true}
use Rattle.reports.proofs.bench.Bench.report.Goals as goal
use Rattle.reports.proofs.bench.Bench.report.Goals.{After-unwrap-active, After-tell_capture}

-- the data stand in the front of the row
data_front : (c : After-unwrap-active) → take c.unwrap-active.result c.read_front.new.out ≡ bytes (data_kept bench_reading (captured c.args.self.now.capture))
data_front c =
    let s = captured c.args.self.now.capture in
    let front = rw c.unwrap-active.ensures at c.read_front.ensures.front in
    subst (λ (n : ℕ). take c.unwrap-active.result c.read_front.new.out ≡ bytes (data_kept (split_reading count_kind (shortcut_reading count_kind count_score (exhaustive_reading count_score n))) s)) c.bench_readers-reader.ensures front.1

-- so they can be told, and the page has their report
told : (c : After-tell_capture) → IsOk c.tell_capture.result × (text_on c.tell_capture.new.self ≡ report top_count (captured c.args.self.now.capture) (data_kept bench_reading (captured c.args.self.now.capture)))
told c =
    let s = c.args.self.now.capture in
    let front = rw c.unwrap-active.ensures at c.read_front.ensures.front in
    let room : c.unwrap-active.result ≤ length c.read_front.new.out = omega (arith, front.0, trues_bound (captured s).marks_row, (sized s.plan).1) in
    tells_read top_count (captured s) _ (data_kept bench_reading (captured s)) c.unwrap-active.result c.args.self.now.page c.tell_capture.result c.tell_capture.new.self front.0 room (data_front (goal.at.After-tell_capture c).After-unwrap-active) c.tell_capture.ensures

pub slice_bounds-tell_capture-end : goal.slice_bounds-tell_capture-end
slice_bounds-tell_capture-end c =
    let s = c.args.self.now.capture in
    let front = rw c.unwrap-active.ensures at c.read_front.ensures.front in
    omega (arith, front.0, trues_bound (captured s).marks_row, (sized s.plan).1)

pub unwrap-requires : goal.unwrap-requires
unwrap-requires c = (told (goal.at.unwrap-requires c).After-tell_capture).0

pub returns : goal.returns
returns c =
    let s = c.args.self.now.capture in
    let text = (told (goal.at.returns c).After-tell_capture).1 in
    let light = rw c.unwrap-active.ensures at c.read_front.ensures.light in
    record {
      text = text;
      light = prints_true top_count (captured s) c.read_front.new.out (data_kept bench_reading (captured s)) c.unwrap-active.result _ (data_front (goal.at.returns c).After-unwrap-active) text light;
      kept = refl;
    }
