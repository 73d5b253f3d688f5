-- What a method on a cursor says: it reads as a reader of the format does. Assumes nothing.
use Rattle.std.specs.Prelude.{◌≡◌, ℕ, cond, List, drop, Ok, Err, Result, ◌==◌}
use Rattle.polar.specs.declared.refusal.Refusal.{Refusal}
use Rattle.polar.specs.declared.refusal.Refusal.TheVariants.{NumberForm}
use Rattle.storage.specs.declared.cursor.Cursor.{Cursor}
use Rattle.storage.specs.Reading.{Read, Reader, got, refused}

-- the bytes from the cursor on
abbrev pub rest : Cursor → List ℕ
rest c = drop c.at c.bytes.now

-- what `reader` gives at the cursor
abbrev pub read_by : {A : Type 0} → Reader A → Cursor → Read A
read_by reader c = reader c.at (rest c)

-- the code answered r and left the cursor at d, where a reading of the format gives `read`
abbrev pub Reads : {A : Type 0} → Read A → Result A Refusal → Cursor → Type 0
Reads read (Ok x) d = read ≡ got x d.at (rest d)
Reads read (Err r) d = read ≡ refused r

-- the same of code that leaves in `items` what was read
abbrev pub Fills : {A : Type 0} → Read A → Result (Unit {0}) Refusal → A → Cursor → Type 0
Fills read (Ok x) items d = read ≡ got items d.at (rest d)
Fills read (Err r) items d = read ≡ refused r

-- what the code answers where a number is closed by its last byte
abbrev pub closed_by : ℕ → ℕ → ℕ → Result ℕ Refusal
closed_by first b value = cond (b == 0) (Err (NumberForm first)) (Ok value)
