use Rattle.std.proofs.Common.{◌≡◌, ℕ, ◌≤◌, None, ◌++◌, drop, length, sym, ap, ◌∙◌, arith}
use Rattle.std.proofs.lemmas.Bool.Decides.{nat_tests}
use Rattle.storage.specs.Contents.{Content, content_of, top_count, Sound}
use Rattle.storage.specs.Stored.{stored}
use Rattle.storage.specs.Calls.{store_due}
use Rattle.storage.proofs.RoundTrip.{loads_what_is_stored}
use Rattle.storage.proofs.storing.store.Goals as goal
use Rattle.storage.proofs.storing.store.Goals.{After-push_content}

none_due : (top : ℕ) (c : Content) (room : ℕ) → Sound top c → length (stored top c) ≤ room → store_due top c room ≡ None
none_due top c room s h = grind (arith, nat_tests)

sound : (c : After-push_content) → Sound top_count (content_of c.args.marks.now c.args.counts.now c.args.exponent)
sound c = record {
  some = c.in_ok-check_length.ensures.within.0;
  short = c.in_ok-check_length.ensures.within.1;
  active = omega arith;
  paired = c.if-counts-marks.false;
  small = sym c.are_small.ensures ∙ c.if-not-are_small.false;
  scaled = omega arith;
}

pub returns-clause-stores : goal.returns-clause-stores
returns-clause-stores c =
    let content = content_of c.args.marks.now c.args.counts.now c.args.exponent in
    let s = sound (goal.at.returns-clause-stores c).After-push_content in
    let form : c.as_slice-bytes.result.now ≡ stored top_count content = c.as_slice-bytes.ensures ∙ c.push_content.ensures in (
      none_due top_count _ _ s (omega (arith, ap length form)),
      record {
        length_is = ap length form;
        written = ap (λ l. l ++ drop (length c.as_slice-bytes.result.now) c.args.out.now) (c.copy_from_slice.ensures.after ∙ form);
        sound = s;
        loads = loads_what_is_stored top_count (omega arith) content s;
      },
    )
