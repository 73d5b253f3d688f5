-- The loops of the two questions. Assumes nothing.
use Rattle.std.proofs.Common.{◌≡◌, ℕ, suc, ◌+◌, ◌<◌, Bool, true, false, cond, List, [], ◌∷◌, length, get_or, drop, ℤ, pos, Some, sym, refl, ap, ◌∙◌, arith}
use Rattle.std.specs.Option.{option_map}
use Rattle.std.specs.List.{position, position_from, zip}
use Rattle.std.proofs.lemmas.Iterator.Adapters.{position_from-zero}
use Rattle.std.proofs.lemmas.List.{drop_more}
use Rattle.polar.specs.Bytes.{bit, bits}
use Rattle.polar.proofs.FirstPlaces.{from_zero, one_further}
use Rattle.soft.specs.Whole.{short_of}
use Rattle.captures.specs.Captures.{shortfall, against, first_against}

-- one symbol more of a shortfall
pub shortfall_more : (counts : List ℤ) (word : List ℕ) (i : ℕ) → i < length counts → i < length word → (top : ℕ)
    → shortfall top (drop i counts) (bits (drop i word)) ≡ short_of top (get_or counts i (pos 0)) (bit (get_or word i 0)) + shortfall top (drop (i + 1) counts) (bits (drop (i + 1) word))
shortfall_more counts word i here there top = rw (drop_more counts i (pos 0) here, drop_more word i 0 there)

-- the first contradiction is looked for among the pairs
abbrev clash : ℤ × ℕ → Bool
clash p = against p.0 (bit p.1)

first_from : (counts : List ℤ) (word : List ℕ) (i : ℕ) → option_map (λ k. i + k) (first_against counts (bits word)) ≡ position_from clash i (zip counts word)
first_from [] word i = refl
first_from (v ∷ counts) [] i = refl
first_from (v ∷ counts) (b ∷ word) i =
    elim (against v (bit b)) as (λ t. option_map (λ k. i + k) (cond t (Some 0) (option_map suc (first_against counts (bits word)))) ≡ cond t (Some i) (position_from clash (i + 1) (zip counts word))) [
      | true ↦ ap Some (omega arith)
      | false ↦ one_further i (first_against counts (bits word)) ∙ first_from counts word (i + 1)
    ]

pub first_is : (counts : List ℤ) (word : List ℕ) → position (λ p. against p.0 (bit p.1)) (zip counts word) ≡ first_against counts (bits word)
first_is counts word = position_from-zero clash (zip counts word) ∙ sym (first_from counts word 0) ∙ from_zero (first_against counts (bits word))
