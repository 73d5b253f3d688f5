use Rattle.std.proofs.Common.{take, sym, refl, ap, arith}
use Rattle.std.proofs.lemmas.List.{length-take-le}
use Rattle.storage.specs.Contents.{content_of, top_count}
use Rattle.storage.specs.Calls.{refusal_in}
use Rattle.storage.proofs.Outcomes.{loaded_exit, bytes_of}
use Rattle.storage.proofs.Places.{refusals_are_placed}
use Rattle.storage.proofs.RoundTrip.{accepts_only_what_is_stored}
use Rattle.storage.proofs.Rows.{front_put}
use Rattle.storage.proofs.Spelling.{numbers_are_read}
use Rattle.storage.proofs.loading.load_rows.Goals as goal

pub returns-in_err-header : goal.returns-in_err-header
returns-in_err-header c = record {
  loaded = loaded_exit top_count _ _ _ c.from_residual.result c.from_residual.ensures.1 c.in_err-header.ensures.fronts;
  accepts = accepts_only_what_is_stored top_count;
  numbers = numbers_are_read;
  placed = refusals_are_placed top_count;
}

pub returns : goal.returns
returns c =
    let n = c.in_ok-header.header.length in
    let content = content_of (take n c.read_rows.new.marks) (take n c.read_rows.new.counts) c.in_ok-header.header.exponent in
    let given = c.in_ok-header.ensures.fronts in
    let short = c.in_ok-header.ensures.sized.1 in
    let law = accepts_only_what_is_stored top_count _ content (bytes_of _ c.type_inv.bytes) given in
    let long = c.read_rows.auto.marks in
    record {
      loaded = (
        ap refusal_in given,
        record {
          content = content;
          held = record { given = given; same = law.1; sound = law.0 };
          length_is = sym (length-take-le n c.read_rows.new.marks (omega (arith, long)));
          exponent_is = refl;
          marks_are = front_put n _ _ _ c.copy_from_slice.ensures.after;
          counts_are = front_put n _ _ _ c.copy_from_slice-2.ensures.after;
        },
      );
      accepts = accepts_only_what_is_stored top_count;
      numbers = numbers_are_read;
      placed = refusals_are_placed top_count;
    }
