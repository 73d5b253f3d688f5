use Rattle.std.proofs.Common.{◌≡◌, ◌-◌, take, Ok, sym, ap, ◌∙◌, subst}
use Rattle.captures.specs.Tops.{top_count, WithinTop}
use Rattle.captures.specs.Captures.{Captured, capture_of, content_in}
use Rattle.captures.specs.Calls.{saved_bytes}
use Rattle.captures.specs.Views.{captured}
use Rattle.captures.proofs.Storing.{within_from_small, front_is}
use Rattle.captures.proofs.capture.Capture.load.Goals as goal
use Rattle.captures.proofs.capture.Capture.load.Goals.{In_ok-header}

-- the fronts of the two rows are what the bytes store
marks_are : (c : In_ok-header) → take (c.in_ok-header.header.length - 0) c.load_rows.new.marks ≡ c.in_ok-header.ensures.loaded.1.content.marks
marks_are c =
    let held = c.in_ok-header.ensures.loaded.1 in
    front_is c.in_ok-header.header.length held.content.marks _ c.load_rows.new.marks held.marks_are (sym held.length_is)

counts_are : (c : In_ok-header) → take (c.in_ok-header.header.length - 0) c.load_rows.new.counts ≡ c.in_ok-header.ensures.loaded.1.content.counts
counts_are c =
    let held = c.in_ok-header.ensures.loaded.1 in
    front_is c.in_ok-header.header.length held.content.counts _ c.load_rows.new.counts held.counts_are (held.held.sound.paired ∙ sym held.length_is)

pub replace-requires-clause-plan : goal.replace-requires-clause-plan
replace-requires-clause-plan c =
    let sound = c.in_ok-header.ensures.loaded.1.held.sound in
    rw (marks_are (goal.at.replace-requires-clause-plan c).In_ok-header) (sound.some, (sound.short, sound.active))

pub replace-requires-clause-same : goal.replace-requires-clause-same
replace-requires-clause-same c =
    let at = (goal.at.replace-requires-clause-same c).In_ok-header in
    rw (marks_are at, counts_are at) c.in_ok-header.ensures.loaded.1.held.sound.paired

pub replace-requires-clause-within : goal.replace-requires-clause-within
replace-requires-clause-within c =
    let held = c.in_ok-header.ensures.loaded.1 in
    subst (WithinTop top_count) (sym (counts_are (goal.at.replace-requires-clause-within c).In_ok-header)) (within_from_small top_count held.content.counts held.held.sound.small)

pub returns : goal.returns
returns c =
    let at = (goal.at.returns c).In_ok-header in
    let loaded = c.in_ok-header.ensures.loaded in
    let held = loaded.1 in
    let x = held.content in
    let is : captured c.replace.new.self ≡ capture_of x.marks x.counts x.exponent = c.replace.ensures ∙ (let marks = marks_are at in let counts = counts_are at in let exponent = held.exponent_is in cc) in
    let same : content_in (captured c.replace.new.self) ≡ x = ap content_in is in
    record {
      value = (loaded.0, held.held.given ∙ ap Ok (sym same));
      saves = held.held.same ∙ ap (λ (d : Captured). saved_bytes top_count d) (sym is);
    }
