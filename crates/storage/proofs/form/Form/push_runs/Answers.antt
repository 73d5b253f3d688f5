use Rattle.std.proofs.Common.{◌≡◌, ◌++◌, length, ap, ◌∙◌, sym, append_assoc, arith, length-append, rules}
use mathlib.Core.Bool.{beq}
use Rattle.std.specs.List.{flat_map}
use Rattle.std.specs.Slice.Iter.{chunk_by_rest}
use Rattle.std.proofs.lemmas.List.Sorted.{answers_always}
use Rattle.storage.specs.Stored.{number}
use Rattle.storage.proofs.RoundTrip.{runs_behind}
use Rattle.storage.proofs.Turns.{chunk_behind, runs_active, runs_frozen}
use Rattle.storage.proofs.form.Form.push_runs.Goals as goal
use Rattle.storage.proofs.form.Form.push_runs.Goals.{then-active, else-active}

-- where the first mark is active
pub push_number-requires-clause-room : goal.push_number-requires-clause-room
push_number-requires-clause-room c =
    let active = runs_active c.args.marks.now c.requires.sized.0 c.if-active.true in
    omega (arith, c.requires.room, simp length-append at (ap (λ ns. length (flat_map number ns)) active))

pub loop-run-init : goal.loop-run-init
loop-run-init c =
    let all : chunk_by_rest c.into_iter-run-iterator.result ≡ c.args.marks.now = ap chunk_by_rest c.into_iter-run-iterator.ensures.into_iter_gives ∙ c.chunk_by-run-items.ensures.rest in (
      omega (arith, ap length all, c.requires.sized.1),
      ap (λ l. c.if-active.self ++ flat_map number (runs_behind l)) all ∙ elim c.if-active.branch [
        | then-active w ↦ rw (w.self-is, w.push_number.ensures, append_assoc) (ap (λ ns. c.args.self.now ++ flat_map number ns) (sym (runs_active c.args.marks.now c.requires.sized.0 w.if-active.true)))
        | else-active w ↦ rw w.self-is (ap (λ ns. c.args.self.now ++ flat_map number ns) (sym (runs_frozen c.args.marks.now c.requires.sized.0 w.if-active.false)))
      ],
    )

pub push_number-requires-in-loop-run-clause-room : goal.push_number-requires-in-loop-run-clause-room
push_number-requires-in-loop-run-clause-room c =
    let s = c.in-Some.ensures.steps in
    let next = chunk_behind _ _ _ s.0 s.1 (s.2 beq (answers_always _ _ _ (λ f a r f' called. search rules))).1 in
    omega (arith, c.requires.room, simp length-append at (ap length c.loop-run.invariant.1), simp length-append at (ap (λ ns. length (flat_map number ns)) next))

pub loop-run-preserved : goal.loop-run-preserved
loop-run-preserved c =
    let s = c.in-Some.ensures.steps in
    let next = chunk_behind _ _ _ s.0 s.1 (s.2 beq (answers_always _ _ _ (λ f a r f' called. search rules))).1 in (
      omega (arith, c.loop-run.invariant.0, simp length-append at (ap length s.0)),
      rw (c.push_number-in-loop-run.ensures, append_assoc) (ap (λ ns. c.loop-run.self ++ flat_map number ns) (sym next) ∙ c.loop-run.invariant.1),
    )
