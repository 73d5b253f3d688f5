-- The largest count of a capture, and counts within it. Assumes nothing.
use Rattle.std.specs.Prelude.{ℕ, ◌<◌, ◌≤◌, List, length, ℤ, pos, slice_index_or, unsigned_abs}
pub use Rattle.soft.specs.Counts.{top_count}

-- no count passes the top in size
abbrev pub WithinTop : ℕ → List ℤ → Type 0
WithinTop top counts = (i : ℕ) → i < length counts → unsigned_abs (slice_index_or counts i (pos 0)) ≤ top
