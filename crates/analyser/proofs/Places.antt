-- The places of a word's ones, as they are looked for and written. Assumes nothing.
use Rattle.std.proofs.Common.{◌≡◌, ℕ, suc, ◌+◌, Bool, true, false, cond, eqb, List, [], ◌∷◌, map, length, refl, ap, ap₂, ◌∙◌, arith}
use lib.ListN.{length-map}
use Rattle.std.specs.List.{filter, enumerate_from}
use Rattle.polar.specs.Words.{trues}
use Rattle.polar.specs.Bytes.{bits}
use Rattle.analyser.specs.Worst.{places_of}

pub length_places : (word : List Bool) → length (places_of word) ≡ trues word
length_places [] = refl
length_places (true ∷ word) = ap suc (length-map (places_of word) suc ∙ length_places word)
length_places (false ∷ word) = length-map (places_of word) suc ∙ length_places word

-- the bytes 1 of a word, each with its place
abbrev pub ones : List ℕ → List (ℕ × ℕ)
ones word = filter (λ p. eqb p.1 1) (enumerate_from 0 word)

further : (n : ℕ) (ks : List ℕ) → map (λ k. (n + 1) + k) ks ≡ map (λ k. n + k) (map suc ks)
further n [] = refl
further n (k ∷ ks) = ap₂ (λ x xs. x ∷ xs) (omega arith) (further n ks)

from_zero : (ks : List ℕ) → map (λ k. 0 + k) ks ≡ ks
from_zero [] = refl
from_zero (k ∷ ks) = ap₂ (λ x xs. x ∷ xs) (omega arith) (from_zero ks)

ones_from : (word : List ℕ) (n : ℕ) → map (λ (p : ℕ × ℕ). p.0) (filter (λ p. eqb p.1 1) (enumerate_from n word)) ≡ map (λ k. n + k) (places_of (bits word))
ones_from [] n = refl
ones_from (b ∷ word) n =
    let later = ones_from word (n + 1) ∙ further n (places_of (bits word)) in
    elim (eqb b 1) as (λ t. map (λ (p : ℕ × ℕ). p.0) (cond t ((n, b) ∷ filter (λ p. eqb p.1 1) (enumerate_from (n + 1) word)) (filter (λ p. eqb p.1 1) (enumerate_from (n + 1) word))) ≡ map (λ k. n + k) (places_of (t ∷ bits word))) [
      | true ↦ ap₂ (λ x xs. x ∷ xs) (omega arith) later
      | false ↦ later
    ]

pub places_found : (word : List ℕ) → map (λ (p : ℕ × ℕ). p.0) (ones word) ≡ places_of (bits word)
places_found word = ones_from word 0 ∙ from_zero (places_of (bits word))

pub how_many : (word : List ℕ) → length (map (λ (p : ℕ × ℕ). p.0) (ones word)) ≡ trues (bits word)
how_many word = ap length (places_found word) ∙ length_places (bits word)
