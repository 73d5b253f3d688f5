-- A table holds if the column of what is found is the column of what is told. Assumes nothing.
use Rattle.std.proofs.Common.{◌≡◌, List, [], ◌∷◌, map}
use Rattle.std.specs.List.{AllByRecursion}
use Rattle.examples.specs.Questions.{found}
use Rattle.examples.specs.Table.{Row, Holds}

pub all_hold : (rows : List Row) → map (λ (row : Row). found row.asked) rows ≡ map (λ (row : Row). row.told) rows → AllByRecursion Holds rows
all_hold [] same = tt
all_hold (row ∷ rows) same = (cc, all_hold rows cc)
