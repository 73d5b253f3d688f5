-- The leaf reader. Assumes nothing.
use Rattle.std.specs.Prelude.{Bool, ◌&&◌, List, [], ◌∷◌, length, ◌==◌}
use Rattle.soft.specs.Kind.{Kind}
use Rattle.readers.specs.Readings.{Reading}

-- an active leaf is decided, a frozen one is 0
abbrev pub leaf_answer : {K : Type 0} → Kind K → List Bool → List K → List Bool
leaf_answer kind [] values = []
leaf_answer kind (mark ∷ marks) [] = []
leaf_answer kind (mark ∷ marks) (v ∷ values) = (mark && kind.decided v) ∷ []

-- it takes leaves, and works in no places
abbrev pub leaf_reading : {K : Type 0} → Kind K → Reading K
leaf_reading kind = record {
  taking = λ marks. (length marks == 1);
  answer = λ marks turns values. leaf_answer kind marks values;
  soft_need = λ n. 0;
  bit_need = λ n. 0;
}
