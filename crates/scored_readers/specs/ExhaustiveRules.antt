-- The exhaustive reader keeps the rules of a reader. Assumes nothing.
use Rattle.std.specs.Prelude.{◌≡◌, ℕ, ◌-◌, ◌^◌, ◌≤◌, Bool, true, false, List, [], ◌∷◌, length, ◌≤ℤ◌, nat_le}
use Rattle.std.proofs.Common.{subst, zero-le, arith}
use Rattle.std.proofs.lemmas.Bool.{le-leb}
use Rattle.soft.specs.Kind.{Kind, Score, AllFair}
use Rattle.polar.specs.Words.{trues}
use Rattle.polar.specs.Marks.{Codeword}
use Rattle.polar.specs.Codewords.{tree_of}
use Rattle.readers.specs.Readings.{ReaderRules}
use Rattle.scored_readers.specs.ExhaustiveReading.{data_word, word_score, best, exhaustive_answer, exhaustive_reading}
use Rattle.scored_readers.specs.Numbers.{data_codeword, codeword_number}
use Rattle.scored_readers.specs.Largest.{best_most}
use Rattle.scored_readers.specs.Scores.{near_outscores}

module _ {K : Type 0} (kind : Kind K) (score : Score K) (fair : AllFair kind score) where
  -- no label scores more than the answer
  exhaustive_most : (ms : List Bool) (turns : ℕ) (values : List K) (word : List Bool) → 1 ≤ length ms → Codeword (tree_of ms) ms word
      → word_score score turns values word ≤ℤ word_score score turns values (exhaustive_answer score ms turns values)
  exhaustive_most ms turns values word some code =
      let f = λ (n : ℕ). word_score score turns values (data_word ms n) in
      let found = codeword_number ms some word code in
      let last = 2 ^ trues ms - 1 in
      let most : f found.0 ≤ℤ f (best f last) = best_most f last found.0 (omega (arith, found.1)) in
      subst (λ w. word_score score turns values w ≤ℤ f (best f last)) found.2 most

  leaf_taken : (most : ℕ) → 1 ≤ most → (mark : Bool) → nat_le (trues (mark ∷ [])) most ≡ true
  leaf_taken most some true = le-leb _ _ some
  leaf_taken most some false = le-leb _ _ zero-le

  pub exhaustive_rules : (most : ℕ) → 1 ≤ most → ReaderRules kind (exhaustive_reading score most)
  exhaustive_rules most some = record {
    leaf_taken = leaf_taken most some;
    answers_label = λ ms turns values taken posed. data_codeword ms posed.some _;
    answers_near = λ ms turns values word taken posed code near.
        let most = exhaustive_most ms turns values word posed.some code in
        near_outscores kind score fair ms turns values word _ posed code (data_codeword ms posed.some _) near most;
    soft_grows = λ m n h. zero-le;
    bits_grow = λ m n h. omega arith;
  }
