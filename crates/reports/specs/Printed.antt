-- What the bench program prints of the bytes that it is given. Assumes nothing.
use Rattle.std.specs.Prelude.{◌≡◌, ℕ, ◌<◌, Bool, List, Ok, Err, Result}
use Rattle.polar.specs.declared.refusal.Refusal.{Refusal}
use Rattle.polar.specs.Bytes.{bits}
use Rattle.soft.specs.declared.count.Count.{Count}
use Rattle.soft.specs.Counts.{count_kind, count_score, top_count}
use Rattle.readers.specs.Readings.{Reading}
use Rattle.readers.specs.SplitReading.{split_reading}
use Rattle.scored_readers.specs.ExhaustiveReading.{exhaustive_reading}
use Rattle.scored_readers.specs.ShortcutReading.{shortcut_reading}
use Rattle.storage.specs.Contents.{Content}
use Rattle.storage.specs.Reading.{outcome}
use Rattle.captures.specs.Captures.{Captured, capture_of}
use Rattle.captures.specs.Calls.{Made}
use Rattle.analyser.specs.Histories.{Call, charges, History}
use Rattle.analyser.specs.Assurance.{Planned, bound}
use Rattle.analyser.specs.Comparing.{data_kept}
use Rattle.reports.specs.Report.{report, refusal_report}

-- the pile of the bench program: split over shortcut over exhaustive 4
abbrev pub bench_reading : Reading Count
bench_reading = split_reading count_kind (shortcut_reading count_kind count_score (exhaustive_reading count_score 4))

-- the capture that is stored
abbrev pub capture_in : Content → Captured
capture_in c = capture_of c.marks c.counts c.exponent

-- the report of what was loaded, with the data that the pile reads by counts, or the refusal
abbrev pub printed_of : Result Content Refusal → List ℕ
printed_of (Ok c) = report top_count (capture_in c) (data_kept bench_reading (capture_in c))
printed_of (Err why) = refusal_report why

abbrev pub printed : List ℕ → List ℕ
printed bytes = printed_of (outcome top_count bytes)

-- the capture place afterwards: it holds what was loaded, or what it held before
abbrev pub held_after : Captured → Result Content Refusal → Captured
held_after before (Ok c) = capture_in c
held_after before (Err why) = before

abbrev pub HoldsLoaded : Captured → List ℕ → Captured → Type 0
HoldsLoaded before bytes after = after ≡ held_after before (outcome top_count bytes)

-- The text is the report of the sender's data: whatever plan and data word the capture was made of, and whatever calls lie between, as long
-- as they are charged less than the bound in all.
abbrev pub LightHistoriesPrintTrue : ℕ → Captured → List ℕ → Type 0
LightHistoriesPrintTrue top now text =
    (place start : Captured) (ms : List Bool) (k : ℕ) (sent : List ℕ) (past : List Call)
    → Planned ms → Made top place ms k sent (Ok tt) start → History top start past now → charges top past < bound top ms → text ≡ report top now (bits sent)
