-- The exhaustive reader: of all labels of a node, the one of largest score. Assumes nothing.
use Rattle.std.specs.Prelude.{ℕ, zero, suc, ◌-◌, ◌*◌, ◌/◌, ◌%◌, ◌^◌, Bool, cond, ◌&&◌, List, [], ◌∷◌, ℤ, pos, ◌+ℤ◌, None, Option, ◌==◌, int_lt, nat_le}
use Rattle.polar.specs.declared.refusal.Refusal.{Refusal}
use Rattle.polar.specs.declared.refusal.Refusal.TheVariants.{Range}
use Rattle.polar.specs.Refusals.{refused_unless}
use Rattle.polar.specs.Words.{trues}
use Rattle.polar.specs.Codewords.{codeword}
use Rattle.soft.specs.Kind.{Score}
use Rattle.readers.specs.Readings.{Reading}

-- the k lowest binary digits of a number, the highest first
abbrev pub digits : ℕ → ℕ → List Bool
digits zero n = []
digits (suc k) n = (n / 2 ^ k % 2 == 1) ∷ digits k n

-- the label of a data number, of which the first active leaf has the highest digit
abbrev pub data_word : List Bool → ℕ → List Bool
data_word ms n = codeword ms (digits (trues ms) n)

-- the score of all values for all bits of a word
abbrev pub word_score : {K : Type 0} → Score K → ℕ → List K → List Bool → ℤ
word_score score turns [] word = pos 0
word_score score turns (v ∷ values) [] = pos 0
word_score score turns (v ∷ values) (b ∷ word) = score v b turns +ℤ word_score score turns values word

-- the first of the numbers 0 to n at which f is largest
abbrev pub best : (ℕ → ℤ) → ℕ → ℕ
best f zero = 0
best f (suc n) = cond (int_lt (f (best f n)) (f (suc n))) (suc n) (best f n)

-- the label of largest score, and of those the one of the smallest data number
abbrev pub exhaustive_answer : {K : Type 0} → Score K → List Bool → ℕ → List K → List Bool
exhaustive_answer score ms turns values = data_word ms (best (λ n. word_score score turns values (data_word ms n)) (2 ^ trues ms - 1))

-- it takes nodes with few active leaves, and works in two rows of bits
abbrev pub exhaustive_reading : {K : Type 0} → Score K → ℕ → Reading K
exhaustive_reading score most = record {
  taking = λ ms. nat_le (trues ms) most;
  answer = exhaustive_answer score;
  soft_need = λ n. 0;
  bit_need = λ n. 2 * n;
}

-- a threshold is 1 to 8
abbrev pub threshold_due : ℕ → Option Refusal
threshold_due n = refused_unless (nat_le 1 n && nat_le n 8) Range None
