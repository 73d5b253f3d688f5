use Rattle.std.proofs.Common.{◌≡◌, ℕ, ◌+◌, ◌<◌, List, [], ◌∷◌, ◌++◌, length, get_or, drop, slice_set, sym, ap, ◌∙◌, arith, length-append}
use Rattle.std.proofs.lemmas.List.{append_assoc, set_at, drop_more}
use Rattle.std.proofs.iter.Next as it
use Rattle.std.proofs.iter.runs.Made.{run_of_turn, run_of_exit}
use Rattle.polar.proofs.rows.write_front.Goals as goal

-- one item more
more : {X : Type 0} (xs old : List X) (x : X) (k : ℕ) → k ≡ length xs → k < length old
    → slice_set (xs ++ drop (length xs) old) k x ≡ (xs ++ x ∷ []) ++ drop (length (xs ++ x ∷ [])) old
more xs old x k size within =
    let n : length (xs ++ x ∷ []) ≡ k + 1 = omega (arith, length-append xs (x ∷ [])) in
    rw (n, ← size) (ap (λ r. slice_set (xs ++ r) k x) (drop_more old k x within)
    ∙ set_at xs (get_or old k x) (drop (k + 1) old) x k (sym size) ∙ sym (append_assoc xs (x ∷ []) (drop (k + 1) old)))

pub bounds-out-next : goal.bounds-out-next
bounds-out-next g c =
    let i = c.loop-next.invariant in
    let run = run_of_turn g.I.Iterator.next_gives _ i.seen _ i.gave c.in-Some.x _ (it.said g.I.Iterator.next_gives c.in-Some.is c.next.ensures.steps) in
    omega (arith, i.holds.0, run.2.1, c.requires.room run.0 run.0.seen run.1, c.loop-next.auto.out)

pub overflow_add-next : goal.overflow_add-next
overflow_add-next g c =
    let i = c.loop-next.invariant in
    let run = run_of_turn g.I.Iterator.next_gives _ i.seen _ i.gave c.in-Some.x _ (it.said g.I.Iterator.next_gives c.in-Some.is c.next.ensures.steps) in
    record { fits = omega (arith, i.holds.0, run.2.1, c.requires.room run.0 run.0.seen run.1, c.well_formed.0.0) }

pub loop-next-preserved : goal.loop-next-preserved
loop-next-preserved g c =
    let i = c.loop-next.invariant in
    let run = run_of_turn g.I.Iterator.next_gives _ i.seen _ i.gave c.in-Some.x _ (it.said g.I.Iterator.next_gives c.in-Some.is c.next.ensures.steps) in
    let within : c.loop-next.next < length c.args.out.now = omega (arith, i.holds.0, run.2.1, c.requires.room run.0 run.0.seen run.1) in
    it.again i c.in-Some.x c.in-Some.is (c.next.ensures.steps, c.next.ensures.goes)
    (omega (arith, i.holds.0, length-append i.seen (c.in-Some.x ∷ [])), ap (λ r. slice_set r c.loop-next.next c.in-Some.x) i.holds.1 ∙ more i.seen c.args.out.now c.in-Some.x c.loop-next.next i.holds.0 within)

pub returns : goal.returns
returns g c =
    let i = c.loop-next.invariant in
    let run = run_of_exit g.I.Iterator.next_gives _ i.seen _ i.gave _ (it.said g.I.Iterator.next_gives c.in_default.is c.next.ensures.steps) in
    record { runs = (run.0, run.1, run.2, (i.holds.0 ∙ sym run.3.1, rw (run.3.0, run.3.1) i.holds.1)) }
