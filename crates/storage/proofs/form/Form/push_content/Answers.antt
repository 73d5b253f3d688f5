use Rattle.std.proofs.Common.{◌+◌, ◌≤◌, map, length, sym, ap, append_assoc, append-nil, arith, length-append}
use Rattle.std.specs.List.{flat_map}
use Rattle.storage.specs.Contents.{Content, content_of, top_count, Sound}
use Rattle.storage.specs.Stored.{number, runs, code}
use Rattle.storage.proofs.RoundTrip.{in_parts}
use Rattle.storage.proofs.Turns.{form_short}
use Rattle.storage.proofs.form.Form.push_content.Goals as goal

-- there is room for all parts
room : (c : Content) → Sound top_count c
    → length (number 1) + (length (number (length c.marks)) + (length (number c.exponent) + (length (flat_map number (runs c.marks)) + length (flat_map number (map code c.counts))))) ≤ 12293
room c s = omega (arith, form_short top_count c (omega arith) s, simp length-append at (ap length (in_parts top_count c)))

pub push_number-requires-clause-room : goal.push_number-requires-clause-room
push_number-requires-clause-room c = rw c.requires.empty (omega (arith, room _ c.requires.sound))

pub push_number-requires-2-clause-room : goal.push_number-requires-2-clause-room
push_number-requires-2-clause-room c = rw (c.push_number.ensures, c.requires.empty) (simp length-append (omega (arith, room _ c.requires.sound)))

pub push_number-requires-3-clause-room : goal.push_number-requires-3-clause-room
push_number-requires-3-clause-room c = rw (c.from.ensures, c.push_number-2.ensures, c.push_number.ensures, c.requires.empty) (simp length-append (omega (arith, room _ c.requires.sound)))

pub push_runs-requires-clause-room : goal.push_runs-requires-clause-room
push_runs-requires-clause-room c = rw (c.push_number-3.ensures, c.from.ensures, c.push_number-2.ensures, c.push_number.ensures, c.requires.empty) (simp length-append (omega (arith, room _ c.requires.sound)))

pub push_counts-requires-clause-room : goal.push_counts-requires-clause-room
push_counts-requires-clause-room c = rw (c.push_runs.ensures, c.push_number-3.ensures, c.from.ensures, c.push_number-2.ensures, c.push_number.ensures, c.requires.empty) (simp length-append (omega (arith, room _ c.requires.sound)))

pub returns : goal.returns
returns c =
    rw (c.push_counts.ensures, c.push_runs.ensures, c.push_number-3.ensures, c.from.ensures, c.push_number-2.ensures, c.push_number.ensures, c.requires.empty)
    (simp append_assoc (sym (simp append-nil at (in_parts top_count (content_of c.args.marks.now c.args.counts.now c.args.exponent)))))
