-- What one level of reading by halves needs. Assumes nothing.
use Rattle.std.specs.Prelude.{◌≡◌, ℕ, ◌+◌, ◌≤◌, Bool, List, length}
use Rattle.polar.specs.Codewords.{tree_of}
use Rattle.readers.specs.Readings.{Reading, most_places}
use Rattle.readers.specs.SplitReading.{own_places}

-- beside the node, the places of the reader below with those of the split itself
pub record Halving {K : Type 0} (below : Reading K) (marks : List Bool) (soft_places bit_places out_places : ℕ) : Type 0 where
  pub out_room : out_places ≡ length marks
  pub soft_room : below.soft_need (length marks) + own_places (tree_of marks) ≤ soft_places
  pub bit_room : below.bit_need (length marks) ≤ bit_places
  pub soft_told : below.soft_need (length marks) ≤ most_places
  pub bits_told : below.bit_need (length marks) ≤ most_places
