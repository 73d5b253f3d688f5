use Rattle.std.proofs.Common.{sym}
use Rattle.storage.specs.Contents.{top_count}
use Rattle.storage.proofs.Outcomes.{loaded_is, refused_exit, bytes_of}
use Rattle.storage.proofs.Places.{refusals_are_placed}
use Rattle.storage.proofs.RoundTrip.{accepts_only_what_is_stored}
use Rattle.storage.proofs.Spelling.{numbers_are_read}
use Rattle.storage.proofs.loading.load.Goals as goal

pub returns-in_err-header : goal.returns-in_err-header
returns-in_err-header c = record {
  loaded = loaded_is top_count _ c.from_residual.result (bytes_of _ c.type_inv.bytes) (refused_exit c.from_residual.result c.from_residual.ensures.1 c.in_err-header.ensures.fronts);
  accepts = accepts_only_what_is_stored top_count;
  numbers = numbers_are_read;
  placed = refusals_are_placed top_count;
}

pub returns : goal.returns
returns c = record {
  loaded = loaded_is top_count _ _ (bytes_of _ c.type_inv.bytes) (sym c.in_ok-header.ensures.fronts);
  accepts = accepts_only_what_is_stored top_count;
  numbers = numbers_are_read;
  placed = refusals_are_placed top_count;
}
