use Rattle.std.proofs.Common.{length, get_or, pos, ap, arith, length-append, w16, SFits, rules}
use Rattle.std.proofs.lemmas.Int.{to_z-of_z}
use Rattle.storage.proofs.Turns.{next_count}
use Rattle.storage.proofs.form.Form.push_counts.Goals as goal

pub push_number-requires-clause-room : goal.push_number-requires-clause-room
push_number-requires-clause-room c =
    let fits : SFits w16 (get_or c.args.counts.now c.loop-v.v-index (pos 0)) = search rules in
    let next = next_count _ _ _ c.loop-v-test.true (to_z-of_z w16 _ fits) in
    rw c.coded.ensures (omega (arith, c.requires.room, simp length-append at (ap length c.loop-v.invariant.1), simp length-append at (ap length next)))
