-- The call that finds two data words of a plan and the places whose erasures leave their captures equal. Assumes nothing.
use Rattle.std.specs.Prelude.{◌≡◌, ℕ, suc, ◌^◌, ◌<◌, Bool, true, false, ◌||◌, List, [], ◌∷◌, ◌++◌, map, length, drop, replicate, None, Option, Result, nat_lt, slice_index, slice_index_or}
use Rattle.polar.specs.declared.refusal.Refusal.{Refusal}
use Rattle.polar.specs.declared.refusal.Refusal.TheVariants.{Output}
use Rattle.polar.specs.Refusals.{Outcome, refused_if}
use Rattle.polar.specs.Shape.{turns}
use Rattle.polar.specs.Words.{trues}
use Rattle.polar.specs.Bytes.{bytes}
use Rattle.polar.specs.Marks.{collect, single, weight}
use Rattle.polar.specs.Codewords.{tree_of, codeword}

-- the weight of a plan
abbrev pub plan_weight : List Bool → ℕ
plan_weight ms = weight (tree_of ms) ms

-- the weight of the leaf at a place: 2 to the right branches on the way to it
abbrev pub leaf_weight : List Bool → ℕ → ℕ
leaf_weight ms i = 2 ^ slice_index (turns (tree_of ms)) i

-- the first active leaf that weighs as much as the plan; every active leaf before it weighs more
pub record FirstLightest (ms : List Bool) (i : ℕ) : Type 0 where
  pub within : i < length ms
  pub active : slice_index_or ms i false ≡ true
  pub lightest : leaf_weight ms i ≡ plan_weight ms
  pub first : (j : ℕ) → j < i → slice_index_or ms j false ≡ true → plan_weight ms < leaf_weight ms j

-- the data word of zeros
abbrev pub zero_word : List Bool → List Bool
zero_word ms = replicate (trues ms) false

-- the data word that has 1 at the datum of the leaf at i alone
abbrev pub leaf_word : List Bool → ℕ → List Bool
leaf_word ms i = collect ms (single (length ms) i)

-- the places, ascending, where a word has 1
abbrev pub places_of : List Bool → List ℕ
places_of [] = []
places_of (true ∷ word) = 0 ∷ map suc (places_of word)
places_of (false ∷ word) = map suc (places_of word)

-- a row for data or for places is too short
abbrev pub worst_due : List Bool → ℕ → ℕ → ℕ → Option Refusal
worst_due ms one other places =
    refused_if (nat_lt one (trues ms) || nat_lt other (trues ms) || nat_lt places (plan_weight ms)) Output None

-- What an accepted call writes into the fronts of the three rows, whose tails stay: the zero word, the word of the first lightest leaf,
-- and the places where the codeword of that word has 1. It answers their number, which is the plan's weight.
pub record WorstWritten (ms : List Bool) (one other places : List ℕ) (n : ℕ) (one' other' places' : List ℕ) : Type 0 where
  pub leaf : ℕ
  pub is_first : FirstLightest ms leaf
  pub answer : n ≡ plan_weight ms
  pub one_is : one' ≡ bytes (zero_word ms) ++ drop (trues ms) one
  pub other_is : other' ≡ bytes (leaf_word ms leaf) ++ drop (trues ms) other
  pub places_is : places' ≡ places_of (codeword ms (leaf_word ms leaf)) ++ drop n places

abbrev pub WorstPair : List Bool → List ℕ → List ℕ → List ℕ → Result ℕ Refusal → List ℕ → List ℕ → List ℕ → Type 0
WorstPair ms one other places answer one' other' places' =
    Outcome (worst_due ms (length one) (length other) (length places)) answer
    (λ n. WorstWritten ms one other places n one' other' places')
    ((one' ≡ one) × (other' ≡ other) × (places' ≡ places))
