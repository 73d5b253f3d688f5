-- The counts: the whole numbers up to one top, each held in a struct. Assumes nothing.
use Rattle.std.specs.Prelude.{ℕ, ℤ}
use Rattle.soft.specs.Kind.{Kind, Score}
use Rattle.soft.specs.Carried.{carried, carried_score}
use Rattle.soft.specs.Whole.{whole_kind, whole_score}
use Rattle.soft.specs.declared.count.Count.{Count}

-- the most that a count is in size at 0 turns
abbrev pub top_count : ℕ
top_count = 127

-- the number that a count holds
abbrev pub held : Count → ℤ
held v = v.0

-- the count that holds a number
abbrev pub counted : ℤ → Count
counted z = record { 0 = z }

-- the kind of counts
abbrev pub count_kind : Kind Count
count_kind = carried held counted (whole_kind top_count)

-- the score of a count
abbrev pub count_score : Score Count
count_score = carried_score held whole_score
