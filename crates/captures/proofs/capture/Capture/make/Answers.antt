use Rattle.std.proofs.Common.{◌≡◌, ℕ, ◌-◌, ◌≤◌, false, ltb, map, length, take, sym, ap, ◌∙◌, subst, arith}
use native.Mathlib.Nat.{sub-zero}
use Rattle.std.proofs.lemmas.Bool.{le-ltb}
use Rattle.polar.specs.Bytes.{bits, bytes}
use Rattle.polar.specs.Codewords.{codeword}
use Rattle.polar.specs.Plans.{marks_of, encode_due}
use Rattle.polar.proofs.PlanFacts.{sized}
use Rattle.polar.proofs.Codes.{bits_bytes, front_bytes, length_codeword}
use Rattle.captures.specs.Tops.{top_count, WithinTop}
use Rattle.captures.specs.Captures.{capture_of, full}
use Rattle.captures.specs.Calls.{make_due}
use Rattle.captures.proofs.Counts.{within_from_all, full_within}
use Rattle.captures.proofs.capture.Capture.make.Goals as goal
use Rattle.captures.proofs.capture.Capture.make.Goals.{After-put_full_counts, Else-exponent-gt-MAX_EXPONENT}

not_above : (a b : ℕ) → a ≤ b → ltb b a ≡ false
not_above a b h = le-ltb b a h

-- with the exponent in range, making is refused just as encoding into the longest row is
dues_agree : (c : Else-exponent-gt-MAX_EXPONENT) → make_due top_count (marks_of c.args.plan.now) c.args.exponent c.args.«data».now ≡ encode_due (marks_of c.args.plan.now) c.args.«data».now 4096
dues_agree c =
    let ms = marks_of c.args.plan.now in
    rw (not_above c.args.exponent 6 (omega arith), not_above (length ms) 4096 (sized c.args.plan.now).1)

-- the counts are those of the codeword
counts_are : (c : After-put_full_counts) → c.put_full_counts.new.counts ≡ map (full top_count) (codeword (marks_of c.args.plan.now) (bits c.args.«data».now))
counts_are c =
    let plan = c.args.plan.now in
    let w = codeword (marks_of plan) (bits c.args.«data».now) in
    let n = c.length-2.result in
    let done = c.in_ok-encode.ensures.value.1 in
    let front : take (n - 0) c.encode.new.out ≡ bytes w =
    ap (λ k. take k c.encode.new.out) (sub-zero n) ∙ ap (take n) done.1 ∙ front_bytes w _ n (length_codeword (marks_of plan) (bits c.args.«data».now) (sized plan).0 ∙ sym c.length-2.ensures) in
    c.put_full_counts.ensures ∙ ap (λ word. map (full top_count) (bits word)) front ∙ ap (map (full top_count)) (bits_bytes w)

pub replace-requires-clause-within : goal.replace-requires-clause-within
replace-requires-clause-within c =
    let w = codeword (marks_of c.args.plan.now) (bits c.args.«data».now) in
    subst (WithinTop top_count) (sym (counts_are (goal.at.replace-requires-clause-within c).After-put_full_counts)) (within_from_all top_count (map (full top_count) w) (full_within top_count w))

pub returns : goal.returns
returns c =
    let at = (goal.at.returns c).After-put_full_counts in
    (dues_agree (goal.at.returns c).Else-exponent-gt-MAX_EXPONENT ∙ c.in_ok-encode.ensures.value.0, c.replace.ensures ∙ ap (λ ms. capture_of ms c.put_full_counts.new.counts c.args.exponent) c.marks.ensures ∙ ap (λ counts. capture_of (marks_of c.args.plan.now) counts c.args.exponent) (counts_are at))
