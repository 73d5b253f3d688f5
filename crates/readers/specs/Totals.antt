-- Shortfalls of the halves of a node. Assumes nothing.
use Rattle.std.specs.Prelude.{◌≡◌, ℕ, ◌+◌, ◌≤◌, Bool, true, false, List, [], ◌∷◌, ◌++◌, length, take, drop, refl}
use Rattle.std.proofs.Common.{sym, ap, ◌∙◌, arith}
use Rattle.std.proofs.lemmas.List.{length-take-le, take-append-drop}
use Rattle.polar.specs.Words.{xor, merge, plus}
use Rattle.polar.specs.Labels.{join}
use Rattle.polar.proofs.Merges.{length_merge}
use Rattle.soft.specs.Kind.{Kind, Rules}
use Rattle.readers.specs.Readings.{total, AllFit}
use Rattle.readers.specs.SplitReading.{joins}

xor_back : (b c : Bool) → xor (xor b c) c ≡ b
xor_back true true = refl
xor_back true false = refl
xor_back false true = refl
xor_back false false = refl

module _ {K : Type 0} (kind : Kind K) where
  pub total_append : (turns : ℕ) (vs ws : List K) (x y : List Bool) → length vs ≡ length x → total kind turns (vs ++ ws) (x ++ y) ≡ total kind turns vs x + total kind turns ws y
  total_append turns [] ws [] y long = omega arith
  total_append turns [] ws (b ∷ x) y long = absurd (omega arith)
  total_append turns (v ∷ vs) ws [] y long = absurd (omega arith)
  total_append turns (v ∷ vs) ws (b ∷ x) y long = omega (arith, total_append turns vs ws x y (omega arith))

  -- the label of a node falls short by what its two halves do
  pub total_join : (h turns : ℕ) (values : List K) (x y : List Bool) → length x ≡ h → h ≤ length values
      → total kind turns values (join x y) ≡ total kind turns (take h values) (plus x y) + total kind turns (drop h values) y
  total_join h turns values x y wide fits =
      let same : length (take h values) ≡ length (plus x y) = length-take-le h values fits ∙ sym (length_merge xor x y ∙ wide) in
      ap (λ vs. total kind turns vs (join x y)) (sym (take-append-drop h values)) ∙ total_append turns (take h values) (drop h values) (plus x y) y same

  module _ (rules : Rules kind) (turns : ℕ) where
    -- comparing loses nothing
    pub total_compared : turns ≤ 12 → (vs ws : List K) (x y : List Bool) → AllFit kind turns vs → AllFit kind turns ws → length vs ≡ length x → length ws ≡ length y →
        total kind turns (merge kind.compared vs ws) x ≤ total kind turns vs (plus x y) + total kind turns ws y
    total_compared few [] ws x y p q long same = omega arith
    total_compared few (v ∷ vs) ws [] y p q long same = absurd (omega arith)
    total_compared few (v ∷ vs) [] (b ∷ x) [] p q long same = omega arith
    total_compared few (v ∷ vs) [] (b ∷ x) (c ∷ y) p q long same = absurd (omega arith)
    total_compared few (v ∷ vs) (w ∷ ws) (b ∷ x) [] p q long same = absurd (omega arith)
    total_compared few (v ∷ vs) (w ∷ ws) (b ∷ x) (c ∷ y) p q long same =
        let first : kind.shortfall (kind.compared v w) b turns ≤ kind.shortfall v (xor b c) turns + kind.shortfall w c turns =
        rw (xor_back b c) at (rules.compared_short v w (xor b c) c turns few p.0 q.0) in
        omega (arith, total_compared few vs ws x y p.1 q.1 (omega arith) (omega arith))

    -- nor does joining, under the left label
    pub total_joined : turns ≤ 11 → (vs ws : List K) (x y : List Bool) → AllFit kind turns vs → AllFit kind turns ws → length vs ≡ length x → length ws ≡ length y →
        total kind (turns + 1) (joins kind.joined vs ws x) y ≤ total kind turns vs (plus x y) + total kind turns ws y
    total_joined few [] ws x y p q long same = omega arith
    total_joined few (v ∷ vs) ws [] y p q long same = absurd (omega arith)
    total_joined few (v ∷ vs) [] (b ∷ x) y p q long same = omega arith
    total_joined few (v ∷ vs) (w ∷ ws) (b ∷ x) [] p q long same = absurd (omega arith)
    total_joined few (v ∷ vs) (w ∷ ws) (b ∷ x) (c ∷ y) p q long same =
        let first : kind.shortfall (kind.joined v w b) c (turns + 1) ≤ kind.shortfall v (xor b c) turns + kind.shortfall w c turns =
        rw (xor_back b c) at (rules.joined_short v w (xor b c) c turns few p.0 q.0) in
        omega (arith, total_joined few vs ws x y p.1 q.1 (omega arith) (omega arith))
