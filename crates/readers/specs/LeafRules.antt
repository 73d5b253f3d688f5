-- The leaf reader keeps the rules. Assumes nothing.
use Rattle.std.specs.Prelude.{◌≡◌, ℕ, ◌*◌, ◌<◌, ◌≤◌, Bool, true, false, ◌&&◌, T, List, [], ◌∷◌, length, ◌==◌, slice_index_or, slice_set, refl}
use Rattle.std.proofs.Common.{sym, ap, subst, zero-le, arith, mul-zero}
use Rattle.std.proofs.lemmas.Bool.{eqb-true, false≢true}
use Rattle.soft.specs.Kind.{Kind, Rules, limit}
use Rattle.polar.specs.Shape.{leaf}
use Rattle.polar.specs.Marks.{Codeword, weight}
use Rattle.polar.specs.Codewords.{tree_of}
use Rattle.polar.proofs.Shapes.{balanced_one}
use Rattle.readers.specs.Readings.{Posed, Near, ReaderRules, total}
use Rattle.readers.specs.LeafReading.{leaf_answer, leaf_reading}
use Rattle.readers.specs.Node.{posed_turns}

module _ {K : Type 0} (kind : Kind K) (rules : Rules kind) where
  -- a leaf's label is its own bit, 0 where it is frozen
  own_bit : (m b : Bool) → Codeword leaf (m ∷ []) ((m && b) ∷ [])
  own_bit true b = (refl, tt)
  own_bit false b = (refl, (refl, tt))

  label : (marks : List Bool) (turns : ℕ) (values : List K) → (length marks == 1) ≡ true → Posed kind marks turns values → Codeword (tree_of marks) marks (leaf_answer kind marks values)
  label [] turns values one posed = absurd (omega (arith, eqb-true 0 1 one))
  label (m ∷ []) turns [] one posed = absurd (omega (arith, posed.same))
  label (m ∷ []) turns (v ∷ values) one posed = subst (λ s. Codeword s (m ∷ []) ((m && kind.decided v) ∷ [])) (sym balanced_one) (own_bit m (kind.decided v))
  label (m ∷ n ∷ marks) turns values one posed = absurd (omega (arith, eqb-true _ 1 one))

  decided : (m : Bool) (turns : ℕ) (v : K) (word : List Bool) → turns ≤ 12 → T (kind.fitting v turns) → Codeword leaf (m ∷ []) word
      → total kind turns (v ∷ []) word < limit kind turns * weight leaf (m ∷ []) → (m && kind.decided v) ∷ [] ≡ word
  decided m turns v [] few fits code close = absurd (omega (arith, code.0))
  decided m turns v (b ∷ c ∷ word) few fits code close = absurd (omega (arith, code.0))
  decided true turns v (b ∷ []) few fits code close = ap (λ x. x ∷ []) (rules.decided_sure v b turns few fits (omega arith))
  decided false turns v (b ∷ []) few fits code close = absurd (omega (arith, mul-zero (limit kind turns)))

  near : (marks : List Bool) (turns : ℕ) (values : List K) (word : List Bool) → (length marks == 1) ≡ true → Posed kind marks turns values → Codeword (tree_of marks) marks word → Near kind marks turns values word → leaf_answer kind marks values ≡ word
  near [] turns values word one posed code close = absurd (omega (arith, eqb-true 0 1 one))
  near (m ∷ []) turns [] word one posed code close = absurd (omega (arith, posed.same))
  near (m ∷ []) turns (v ∷ []) word one posed code close =
      let few = posed_turns posed in
      let code' : Codeword leaf (m ∷ []) word = subst (λ s. Codeword s (m ∷ []) word) balanced_one code in
      let within : total kind turns (v ∷ []) word < limit kind turns * weight leaf (m ∷ []) = subst (λ s. total kind turns (v ∷ []) word < limit kind turns * weight s (m ∷ [])) balanced_one close in
      decided m turns v word few posed.fits.0 code' within
  near (m ∷ []) turns (v ∷ w ∷ values) word one posed code close = absurd (omega (arith, posed.same))
  near (m ∷ n ∷ marks) turns values word one posed code close = absurd (omega (arith, eqb-true _ 1 one))

  pub leaf_rules : ReaderRules kind (leaf_reading kind)
  leaf_rules = record {
    leaf_taken = λ mark. refl;
    answers_label = label;
    answers_near = near;
    soft_grows = λ m n h. zero-le;
    bits_grow = λ m n h. zero-le;
  }

  -- what the code stores at an active leaf, and at a frozen one
  pub stored_active : (marks : List Bool) (values : List K) (out : List Bool) (v : K) → length out ≡ 1 → slice_index_or marks 0 false ≡ true → length values ≡ length marks → v ≡ slice_index_or values 0 v → slice_set out 0 (kind.decided v) ≡ leaf_answer kind marks values
  stored_active [] values out v one active same read = absurd (false≢true active)
  stored_active (m ∷ marks) [] out v one active same read = absurd (omega arith)
  stored_active (m ∷ marks) (w ∷ values) [] v one active same read = absurd (omega arith)
  stored_active (m ∷ marks) (w ∷ values) (o ∷ []) v one active same read = rw (active, ← read)
  stored_active (m ∷ marks) (w ∷ values) (o ∷ p ∷ out) v one active same read = absurd (omega arith)

  pub stored_frozen : (marks : List Bool) (values : List K) (out : List Bool) → length out ≡ 1 → 1 ≤ length marks → slice_index_or marks 0 false ≡ false → length values ≡ length marks → slice_set out 0 false ≡ leaf_answer kind marks values
  stored_frozen [] values out one some frozen same = absurd (omega arith)
  stored_frozen (m ∷ marks) [] out one some frozen same = absurd (omega arith)
  stored_frozen (m ∷ marks) (w ∷ values) [] one some frozen same = absurd (omega arith)
  stored_frozen (m ∷ marks) (w ∷ values) (o ∷ []) one some frozen same = rw frozen
  stored_frozen (m ∷ marks) (w ∷ values) (o ∷ p ∷ out) one some frozen same = absurd (omega arith)
