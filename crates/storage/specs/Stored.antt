-- The stored form, as bytes. Assumes nothing.
use Rattle.std.specs.Prelude.{ℕ, zero, suc, ◌+◌, ◌*◌, ◌/◌, ◌%◌, Bool, true, false, cond, List, [], ◌∷◌, ◌++◌, map, length, ℤ, pos, negsuc, nat_le, nat_lt}
use Rattle.std.specs.List.{flat_map}
use Rattle.storage.specs.Contents.{Content, top_count}

-- a number in groups of seven bits, the lowest first; the top bit of a byte says that another follows, of which there may be `more`
unfoldable pub groups : ℕ → ℕ → List ℕ
groups zero n = n ∷ []
groups (suc more) n = cond (nat_lt n 128) (n ∷ []) ((128 + n % 128) ∷ groups more (n / 128))

-- the shortest form of a number below 2 ^ 21: at most three bytes
abbrev pub number : ℕ → List ℕ
number n = groups 2 n

-- the lengths of the runs of equal marks: `run` marks equal to `mark` came last, and the list is what follows them
unfoldable pub runs_from : Bool → ℕ → List Bool → List ℕ
runs_from mark run [] = run ∷ []
runs_from true run (true ∷ ms) = runs_from true (run + 1) ms
runs_from true run (false ∷ ms) = run ∷ runs_from false 1 ms
runs_from false run (true ∷ ms) = run ∷ runs_from true 1 ms
runs_from false run (false ∷ ms) = runs_from false (run + 1) ms

-- frozen and active runs in turn, frozen first: an active first mark comes after a frozen run of 0
abbrev pub runs : List Bool → List ℕ
runs ms = runs_from false 0 ms

-- a count v is 2v from 0 up, and -2v - 1 below
abbrev pub code : ℤ → ℕ
code (pos n) = 2 * n
code (negsuc n) = 2 * n + 1

-- the first field: 1 where counts go up to the usual top, 2 where they go beyond
abbrev pub version : ℕ → ℕ
version top = cond (nat_le top top_count) 1 2

-- the fields: the version, the length, the exponent, the runs of marks, the counts
unfoldable pub fields : ℕ → Content → List ℕ
fields top c = version top ∷ length c.marks ∷ c.exponent ∷ (runs c.marks ++ map code c.counts)

unfoldable pub stored : ℕ → Content → List ℕ
stored top c = flat_map number (fields top c)
