use Rattle.std.proofs.Common.{◌≡◌, ◌<◌, true, length, get_or, set, pos, None, vec_items, sym, ap, ◌∙◌, subst, arith, w16, SFits, to_z, of_z, rules}
use Rattle.std.proofs.lemmas.List.{get_or_read}
use Rattle.std.proofs.lemmas.Int.{to_z-of_z}
use Rattle.polar.specs.declared.refusal.Refusal.TheVariants.{Range}
use Rattle.polar.proofs.Dues.{unless_none}
use Rattle.captures.specs.Tops.{top_count}
use Rattle.captures.specs.Captures.{with_counts}
use Rattle.captures.specs.Calls.{allowed, count_after, edited_at}
use Rattle.captures.specs.Promises.{Charged}
use Rattle.captures.specs.Views.{captured}
use Rattle.captures.proofs.Shortfalls.{charged}
use Rattle.captures.proofs.capture.Capture.edit.Goals as goal
use Rattle.captures.proofs.capture.Capture.edit.Goals.{In_ok-count, After-index}

-- the count that stood at the place
old_is : (c : After-index) → to_z w16 (of_z w16 c.index.result.now) ≡ get_or (vec_items c.args.self.now.counts) c.args.place (pos 0)
old_is c =
    let counts = vec_items c.args.self.now.counts in
    let here : c.args.place < length counts = omega (arith, c.args.self.now.counts.ok.0) in
    let read : c.index.result.now ≡ get_or counts c.args.place (pos 0) = get_or_read counts c.args.place c.index.result.now here c.index.ensures (pos 0) in
    let fits : SFits w16 c.index.result.now = search rules in
    to_z-of_z w16 c.index.result.now fits ∙ read

here_is : (c : After-index) → c.args.place < length (vec_items c.args.self.now.counts)
here_is c = omega (arith, c.args.self.now.counts.ok.0)

-- the edit is in range, and its count is the one that is written
allowed_is : (c : In_ok-count) → allowed top_count c.args.edit ≡ true
allowed_is c = (unless_none (allowed top_count c.args.edit) Range None c.in_ok-count.ensures.value.0).0

pub returns-clause-charged : goal.returns-clause-charged
returns-clause-charged c =
    let s = c.args.self.now in
    let before = captured s in
    let counts = vec_items s.counts in
    let place = c.args.place in
    let edit = c.args.edit in
    let at = (goal.at.returns-clause-charged c).After-index in
    let fits : SFits w16 c.in_ok-count.count = search rules in
    let new : to_z w16 (of_z w16 c.in_ok-count.count) ≡ count_after top_count s.exponent edit (get_or counts place (pos 0)) =
    to_z-of_z w16 c.in_ok-count.count fits ∙ c.in_ok-count.ensures.value.1 ∙ ap (count_after top_count s.exponent edit) (old_is at) in
    let after : with_counts before (set counts place (to_z w16 (of_z w16 c.in_ok-count.count))) ≡ edited_at top_count before place edit = ap (λ v. with_counts before (set counts place v)) new in
    subst (Charged top_count before edit) (sym after) (charged top_count before place edit (here_is at) s.within (allowed_is (goal.at.returns-clause-charged c).In_ok-count))
