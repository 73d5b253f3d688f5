use Rattle.std.proofs.Common.{◌≡◌, ◌++◌, length, drop}
use Rattle.std.proofs.iter.Next as it
use Rattle.std.specs.Iterator.{EndsFrom, items_left}
use Rattle.polar.proofs.rows.write_front.Given as goal

abbrev pub invariant-loop-next : goal.invariant-loop-next
invariant-loop-next g l =
    it.Ran g.I.Iterator.can_next (EndsFrom g.I.Iterator.remaining) (items_left g.I.Iterator.remaining) g.I.Iterator.next_gives
    (λ xs. (l.next ≡ length xs) × (l.out ≡ xs ++ drop (length xs) l.initial.out)) l.initial.items l.items

abbrev pub decreases-loop-next : goal.decreases-loop-next
decreases-loop-next g l = items_left g.I.Iterator.remaining l.items
