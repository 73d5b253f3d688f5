-- What loading bytes gives, field by field: the value of each field, or the first refusal in input order. Assumes nothing.
use Rattle.std.specs.Prelude.{ℕ, zero, suc, ◌+◌, ◌-◌, ◌*◌, ◌/◌, ◌%◌, Bool, true, false, cond, not, ◌&&◌, List, [], ◌∷◌, ◌++◌, replicate, ℤ, pos, negsuc, Ok, Err, Result, ◌==◌, nat_le, nat_lt}
use Rattle.polar.specs.declared.refusal.Refusal.{Refusal}
use Rattle.polar.specs.declared.refusal.Refusal.TheVariants.{InputEnds, NumberForm, FieldRule, BytesRemain}
use Rattle.storage.specs.Contents.{Content, content_of}
use Rattle.storage.specs.Stored.{version}

-- a value that was read, with the place and the bytes that follow it; or a refusal
pub data Read (A : Type 0) : Type 0 where
  got : A → ℕ → List ℕ → Read A
  refused : Refusal → Read A

-- reads at a place the bytes from there on
abbrev pub Reader : Type 0 → Type 0
Reader A = ℕ → List ℕ → Read A

-- what was read goes on to the next reader; a refusal ends the reading
abbrev pub then : {A B : Type 0} → Read A → (A → Reader B) → Read B
then (got x at bytes) next = next x at bytes
then (refused r) next = refused r

-- the value is changed
abbrev pub mapped : {A B : Type 0} → (A → B) → Read A → Read B
mapped f (got x at bytes) = got (f x) at bytes
mapped f (refused r) = refused r

-- the next byte
unfoldable pub byte_at : Reader ℕ
byte_at at [] = refused (InputEnds at)
byte_at at (b ∷ bytes) = got b (at + 1) bytes

-- a byte with its top bit clear ends a number; as a later byte of the number that began at `first` it may not be 0,
-- since a shorter form would then do
abbrev pub closing : ℕ → ℕ → ℕ → Reader ℕ
closing first b value at bytes = cond (b == 0) (refused (NumberForm first)) (got value at bytes)

-- a number of at most three groups of seven bits, the lowest first, in its shortest form
unfoldable pub number_at : Reader ℕ
number_at first bytes =
    then (byte_at first bytes) λ a at bytes.
    cond (nat_lt a 128) (got a at bytes) (
    then (byte_at at bytes) λ b at bytes.
    cond (nat_lt b 128) (closing first b (a - 128 + 128 * b) at bytes) (
    then (byte_at at bytes) λ c at bytes.
    cond (nat_lt c 128) (closing first c (a - 128 + 128 * (b - 128) + 16384 * c) at bytes) (refused (NumberForm first))))

-- a field is a number from `low` to `high`
unfoldable pub field_at : ℕ → ℕ → Reader ℕ
field_at low high first bytes =
    then (number_at first bytes) λ value at bytes.
    cond (nat_le low value && nat_le value high) (got value at bytes) (refused (FieldRule first))

-- the runs after the first, beginning with one of `mark`: no run is 0, and they end when they sum to `left`.
-- `most` bounds how many can come; with `left` at first, it is never used up before
unfoldable pub later_runs_at : ℕ → Bool → ℕ → Reader (List Bool)
later_runs_at most mark zero at bytes = got [] at bytes
later_runs_at zero mark (suc left) at bytes = refused (FieldRule at)
later_runs_at (suc most) mark (suc left) at bytes =
    then (field_at 1 (suc left) at bytes) λ run at bytes.
    mapped (λ ms. replicate run mark ++ ms) (later_runs_at most (not mark) (suc left - run) at bytes)

-- runs of frozen and active marks in turn, frozen first, that sum to n; the first may be 0, and does not reach n
unfoldable pub marks_at : ℕ → Reader (List Bool)
marks_at n at bytes =
    then (field_at 0 (n - 1) at bytes) λ run at bytes.
    mapped (λ ms. replicate run false ++ ms) (later_runs_at (n - run) true (n - run) at bytes)

-- the count of a code: 2v stands for v, and 2v + 1 for -v - 1
abbrev pub coded_count : ℕ → ℤ
coded_count c = cond (c % 2 == 0) (pos (c / 2)) (negsuc (c / 2))

-- the codes of n counts of size at most `top`
unfoldable pub counts_at : ℕ → ℕ → Reader (List ℤ)
counts_at top zero at bytes = got [] at bytes
counts_at top (suc n) at bytes =
    then (field_at 0 (2 * top) at bytes) λ c at bytes.
    mapped (λ vs. coded_count c ∷ vs) (counts_at top n at bytes)

-- the fields in their order: the version, the length, the exponent, the marks, the counts
unfoldable pub content_at : ℕ → Reader Content
content_at top at bytes =
    then (field_at (version top) (version top) at bytes) λ v at bytes.
    then (field_at 1 4096 at bytes) λ n at bytes.
    then (field_at 0 6 at bytes) λ k at bytes.
    then (marks_at n at bytes) λ ms at bytes.
    then (counts_at top n at bytes) λ vs at bytes.
    got (content_of ms vs k) at bytes

-- nothing may follow the last field
abbrev pub ended : {A : Type 0} → Read A → Result A Refusal
ended (got x at []) = Ok x
ended (got x at (b ∷ bytes)) = Err (BytesRemain at)
ended (refused r) = Err r

-- what loading bytes gives: what is stored in them, or the refusal
unfoldable pub outcome : ℕ → List ℕ → Result Content Refusal
outcome top bytes = ended (content_at top 0 bytes)
