-- A plan's weight is the smallest weight of an active leaf, and the minimum distance of its codewords. Assumes nothing.
use Rattle.std.proofs.Common.{◌≡◌, ℕ, zero, suc, ◌<◌, ◌≤◌, Bool, true, false, List, [], ◌∷◌, length, get_or, sym, refl, ap, ◌∙◌, subst, arith, length-set}
use lib.ListN.{length-replicate}
use Rattle.polar.specs.Shape.{Shape, leaves, turns, LeftHeavy}
use Rattle.polar.specs.Words.{plus, trues}
use Rattle.polar.specs.Labels.{label, unlabel}
use Rattle.polar.specs.Marks.{Clear, Codeword, single, weight}
use Rattle.polar.specs.Distances.{LeastWeight, MinimumDistance, LeafWeights}
use Rattle.polar.proofs.Sums.{zeros, plus_same, trues_zeros, zeros_plus}
use Rattle.polar.proofs.Label.{length_label, label_zeros, unlabel_label}
use Rattle.polar.proofs.Shapes.{few_turns}
use Rattle.polar.proofs.Distance.{distance, single_weight, turns_bound}
use Rattle.polar.proofs.Weights.{weight_bound, weight_attained, Lightest}

-- some leaf is active
active_at : (ms : List Bool) → 0 < trues ms → (i : ℕ) × (i < length ms) × (get_or ms i false ≡ true)
active_at [] h = absurd (omega arith)
active_at (true ∷ ms) h = (0, omega arith, refl)
active_at (false ∷ ms) h = let below = active_at ms h in (suc below.0, omega (arith, below.1), below.2)

clear_zeros : (ms : List Bool) (n : ℕ) → Clear ms (zeros n)
clear_zeros [] n = tt
clear_zeros (m ∷ ms) zero = tt
clear_zeros (true ∷ ms) (suc n) = clear_zeros ms n
clear_zeros (false ∷ ms) (suc n) = (refl, clear_zeros ms n)

clear_single : (ms : List Bool) (n i : ℕ) → get_or ms i false ≡ true → Clear ms (single n i)
clear_single [] n i a = tt
clear_single (m ∷ ms) zero i a = tt
clear_single (true ∷ ms) (suc n) zero a = clear_zeros ms n
clear_single (false ∷ ms) (suc n) zero a = absurd (grind arith)
clear_single (true ∷ ms) (suc n) (suc i) a = clear_single ms n i a
clear_single (false ∷ ms) (suc n) (suc i) a = (refl, clear_single ms n i a)

pub some_weighs : (s : Shape) (ms : List Bool) → length ms ≡ leaves s → 0 < trues ms → 0 < weight s ms
some_weighs s ms long some = let a = active_at ms some in (weight_bound s ms a.0 (omega (arith, a.1)) a.2).0

module _ (s : Shape) (ms : List Bool) (heavy : LeftHeavy s) (long : length ms ≡ leaves s) (some : 0 < trues ms) where
  lightest : Lightest s ms
  lightest = weight_attained s ms (some_weighs s ms long some)

  pub least_weight : LeastWeight s ms (weight s ms)
  least_weight = record {
    below = λ i h a. (weight_bound s ms i h a).1;
    attained = let l = lightest in (l.at, l.within, l.active, l.least);
  }

  pub minimum_distance : MinimumDistance s ms (weight s ms)
  minimum_distance =
      let l = lightest in
      let n = leaves s in
      let b = single n l.at in
      let c = zeros n in
      let c' = label s b in
      let size : length c ≡ n = length-replicate n false in
      let size_b : length b ≡ n = length-set (zeros n) l.at true ∙ size in
      let size' : length c' ≡ n = length_label s b size_b in
      let flat : unlabel s c ≡ c = ap (unlabel s) (sym (label_zeros s)) ∙ unlabel_label s c size in
      let code : Codeword s ms c = (size, subst (Clear ms) (sym flat) (clear_zeros ms n)) in
      let code' : Codeword s ms c' = (size', subst (Clear ms) (sym (unlabel_label s b size_b)) (clear_single ms n l.at l.active)) in
      let ones : trues (plus c c') ≡ weight s ms = ap trues (zeros_plus n c' size') ∙ single_weight s l.at heavy l.within ∙ sym l.least in
      let pos = some_weighs s ms long some in
      let apart : c ≡ c' → ⊥ = λ same.
      let none : trues (plus c c') ≡ 0 = ap (λ z. trues (plus c z)) (sym same) ∙ ap trues (plus_same c) ∙ trues_zeros (length c) in
      omega arith in
      record { apart = λ x y p q ne. distance s ms x y heavy long p q ne; attained = (c, c', code, code', apart, ones) }

-- one leaf's label weighs 2 to its turns, of which a block of at most 4096 symbols has at most 12
pub leaf_weights : (s : Shape) → LeftHeavy s → leaves s ≤ 4096 → LeafWeights s
leaf_weights s heavy short i h = (single_weight s i heavy h, few_turns (get_or (turns s) i 0) (omega (arith, turns_bound s i heavy h)))
