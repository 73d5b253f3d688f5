-- Rows of counts and levels: one element more, and the way there and back. Assumes nothing.
use Rattle.std.proofs.Common.{◌≡◌, ℕ, zero, suc, ◌^◌, ◌<◌, ◌≤◌, Bool, true, false, not, ◌&&◌, List, [], ◌∷◌, map, length, get_or, ℤ, Some, None, Ok, Err, Option, sym, refl, ap, ◌∙◌, arith, eq-eqb, true≢false}
use lib.Ieee.{Float, nan, inf, fin, is_nan}
use Rattle.std.proofs.lemmas.List.{length-map}
use denote.Ref.{Bor}
use Rattle.std.specs.Bool.{MatchBool}
use Rattle.std.specs.Option.{option_map, IfSome, IsSomeAnd}
use Rattle.std.proofs.lemmas.Bool.{and_right}
use Rattle.polar.specs.declared.refusal.Refusal.TheVariants.{Range, ItemCount}
use Rattle.polar.specs.Refusals.{refused_unless}
use Rattle.levels.specs.Rounding.{nearest}
use Rattle.levels.specs.Conversion.{nearest_or_zero}
use Rattle.levels.specs.Level.{signed, IsLevel, level_of, count_of}
use Rattle.levels.specs.Rows.{all_are_numbers, AllWithin, import_due, RowsReturn}
use Rattle.levels.proofs.Levels.{level_of_count}
use Rattle.levels.proofs.Rounding.{nearest_rounds, back, within}

-- a row is one of numbers where each level is one, and not where some is none
pub numbers_all : (xs : List Float) → ((k : ℕ) (d : Float) → k < length xs → is_nan (get_or xs k d) ≡ false) → all_are_numbers xs ≡ true
numbers_all [] h = refl
numbers_all (x ∷ xs) h = rw (h 0 x (omega arith)) (numbers_all xs (λ k d l. h (suc k) d (omega arith)))

pub numbers_not : (xs : List Float) (k : ℕ) (d : Float) → k < length xs → is_nan (get_or xs k d) ≡ true → all_are_numbers xs ≡ false
numbers_not [] k d l h = absurd (omega arith)
numbers_not (x ∷ xs) zero d l h = rw h
numbers_not (x ∷ xs) (suc k) d l h = and_right _ _ (numbers_not xs k d (omega arith) h)

-- a test of all levels
pub tested : (b : Bool) (xs : List Float) {P Q : Type 0} → MatchBool b P Q → (P → all_are_numbers xs ≡ true) → (Q → all_are_numbers xs ≡ false) → b ≡ all_are_numbers xs
tested true xs m p q = sym (p m)
tested false xs m p q = sym (q m)

-- a level that a run came to
module _ {P : Bor Float → Type 0} (v : Float) (b : Bool) (says : (x : Bor Float) → P x → is_nan x.now ≡ b) where
  pub seen_if : (o : Option (Bor Float)) → option_map (λ x. x.now) o ≡ Some v → IfSome o P → is_nan v ≡ b
  seen_if None e h = cc
  seen_if (Some x) e h = let same : v ≡ x.now = cc in ap is_nan same ∙ says x h

  pub seen_and : (o : Option (Bor Float)) → option_map (λ x. x.now) o ≡ Some v → IsSomeAnd o P → is_nan v ≡ b
  seen_and None e h = absurd h
  seen_and (Some x) e h = let same : v ≡ x.now = cc in ap is_nan same ∙ says x h

-- the count of a level that is a number
pub count_taken : (t k : ℕ) (x : Float) → is_nan x ≡ false → count_of t k x ≡ Some (nearest_or_zero t k x)
unfolding is_nan
count_taken t k nan h = absurd (true≢false h)
count_taken t k (inf s) h = refl
count_taken t k (fin s m e) h = refl

-- counts of levels that are numbers
pub counts_taken : (t k : ℕ) (xs : List Float) → all_are_numbers xs ≡ true → map Some (map (nearest_or_zero t k) xs) ≡ map (count_of t k) xs
unfolding is_nan
counts_taken t k [] h = refl
counts_taken t k (nan ∷ xs) h = absurd (true≢false (sym h))
counts_taken t k (inf s ∷ xs) h = ap (λ r. Some (signed s t) ∷ r) (counts_taken t k xs h)
counts_taken t k (fin s m e ∷ xs) h = ap (λ r. count_of t k (fin s m e) ∷ r) (counts_taken t k xs h)

level_number : (k : ℕ) (c : ℤ) (x : Float) → IsLevel k c x → is_nan x ≡ false
unfolding is_nan
level_number k c nan v = absurd v
level_number k c (inf s) v = absurd v
level_number k c (fin s m e) v = refl

same_counts : (cs ds : List ℤ) → map Some cs ≡ map Some ds → cs ≡ ds
same_counts [] [] h = refl
same_counts [] (d ∷ ds) h = cc
same_counts (c ∷ cs) [] h = cc
same_counts (c ∷ cs) (d ∷ ds) h = let e : c ≡ d = cc in let rest = same_counts cs ds (cc) in cc

pub all_within : (t k : ℕ) (xs : List Float) (cs : List ℤ) → map Some cs ≡ map (count_of t k) xs → AllWithin t cs
all_within t k xs [] h = tt
all_within t k [] (c ∷ cs) h = cc
all_within t k (x ∷ xs) (c ∷ cs) h = (within nearest nearest_rounds t k x c (cc), all_within t k xs cs (cc))

-- ---- counts of size t at most, on a scale with exponent k: their levels are numbers, and have these counts
module _ (t k : ℕ) (few : t < 2 ^ 24) (fine : k ≤ 149) where
  numbers_of : (cs : List ℤ) → AllWithin t cs → all_are_numbers (map (level_of k) cs) ≡ true
  numbers_of [] h = refl
  numbers_of (c ∷ cs) h = λ j. not (level_number k c (level_of k c) (level_of_count k c fine (omega (arith, h.0))) j) && numbers_of cs h.1 j

  counts_of : (cs : List ℤ) → AllWithin t cs → map (count_of t k) (map (level_of k) cs) ≡ map Some cs
  counts_of [] h = refl
  counts_of (c ∷ cs) h =
      let e = back nearest nearest_rounds t k c (level_of k c) (level_of_count k c fine (omega (arith, h.0))) h.0 in
      λ j. e j ∷ counts_of cs h.1 j

  pub rows_return : RowsReturn t k
  rows_return cs before after (Ok u) h n i = (refl, same_counts after cs (i.1 ∙ counts_of cs h))
  rows_return cs before after (Err e) h n i =
      let same = eq-eqb _ _ (length-map cs (level_of k) ∙ sym n) in
      let none : import_due (map (level_of k) cs) before ≡ None = λ j. refused_unless (same j) ItemCount (refused_unless (numbers_of cs h j) Range None) in
      cc
