-- One kind carried over to another sort of value. Assumes nothing.
use Rattle.soft.specs.Kind.{Kind, Score}

-- the values of A, read as values of a kind on B and written back
abbrev pub carried : {A B : Type 0} → (A → B) → (B → A) → Kind B → Kind A
carried read write kind = record {
  unit = kind.unit;
  fitting = λ v r. kind.fitting (read v) r;
  shortfall = λ v b r. kind.shortfall (read v) b r;
  compared = λ v w. write (kind.compared (read v) (read w));
  joined = λ v w b. write (kind.joined (read v) (read w) b);
  decided = λ v. kind.decided (read v);
}

-- the score of a value of A is that of what it reads as
abbrev pub carried_score : {A B : Type 0} → (A → B) → Score B → Score A
carried_score read score v b r = score (read v) b r
