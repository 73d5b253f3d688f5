-- The laws of two rows merged place by place, for every operation. Assumes nothing.
use Rattle.std.proofs.Common.{◌≡◌, ℕ, zero, suc, ◌+◌, ◌<◌, ◌≤◌, List, [], ◌∷◌, ◌++◌, length, get_or, take, drop, set, sym, refl, ap, add-one, arith}
use Rattle.polar.specs.Words.{merge}

module _ {A : Type 0} (f : A → A → A) where
  pub length_merge : (x y : List A) → length (merge f x y) ≡ length x
  length_merge [] y = refl
  length_merge (a ∷ x) [] = refl
  length_merge (a ∷ x) (b ∷ y) = ap suc (length_merge x y)

  pub merge_nil : (x : List A) → merge f x [] ≡ x
  merge_nil [] = refl
  merge_nil (a ∷ x) = refl

  pub merge_append : (x x' y y' : List A) → length x ≡ length y → merge f (x ++ x') (y ++ y') ≡ merge f x y ++ merge f x' y'
  merge_append [] x' [] y' p = refl
  merge_append [] x' (b ∷ y) y' p = absurd (omega arith)
  merge_append (a ∷ x) x' [] y' p = absurd (omega arith)
  merge_append (a ∷ x) x' (b ∷ y) y' p = ap (λ z. f a b ∷ z) (merge_append x x' y y' (omega arith))

  pub take_merge : (k : ℕ) (x y : List A) → take k (merge f x y) ≡ merge f (take k x) (take k y)
  take_merge zero x y = refl
  take_merge (suc k) [] y = refl
  take_merge (suc k) (a ∷ x) [] = refl
  take_merge (suc k) (a ∷ x) (b ∷ y) = ap (λ z. f a b ∷ z) (take_merge k x y)

  pub drop_merge : (k : ℕ) (x y : List A) → drop k (merge f x y) ≡ merge f (drop k x) (drop k y)
  drop_merge zero x y = refl
  drop_merge (suc k) [] y = refl
  drop_merge (suc k) (a ∷ x) [] = sym (merge_nil (drop k x))
  drop_merge (suc k) (a ∷ x) (b ∷ y) = drop_merge k x y

  -- where y has run out
  pub merge_past : (x y z : List A) → length y ≤ length x → merge f (x ++ z) y ≡ merge f x y ++ z
  merge_past [] [] z p = merge_nil z
  merge_past [] (b ∷ y) z p = absurd (omega arith)
  merge_past (a ∷ x) [] z p = refl
  merge_past (a ∷ x) (b ∷ y) z p = ap (λ w. f a b ∷ w) (merge_past x y z (omega arith))

  pub get_or_merge_past : (x y : List A) (k : ℕ) (d : A) → length y ≤ k → get_or (merge f x y) k d ≡ get_or x k d
  get_or_merge_past [] y k d p = refl
  get_or_merge_past (a ∷ x) [] k d p = refl
  get_or_merge_past (a ∷ x) (b ∷ y) zero d p = absurd (omega arith)
  get_or_merge_past (a ∷ x) (b ∷ y) (suc k) d p = get_or_merge_past x y k d (omega arith)

  merge_suc : (x y : List A) (i : ℕ) (d : A) → i < length x → i < length y
      → merge f x (take (suc i) y) ≡ set (merge f x (take i y)) i (f (get_or x i d) (get_or y i d))
  merge_suc [] y i d p q = absurd (omega arith)
  merge_suc (a ∷ x) [] i d p q = absurd (omega arith)
  merge_suc (a ∷ x) (b ∷ y) zero d p q = ap (λ w. f a b ∷ w) (merge_nil x)
  merge_suc (a ∷ x) (b ∷ y) (suc i) d p q = ap (λ w. f a b ∷ w) (merge_suc x y i d (omega arith) (omega arith))

  -- one place more of y
  pub merge_more : (x y : List A) (i : ℕ) (d : A) → i < length x → i < length y
      → merge f x (take (i + 1) y) ≡ set (merge f x (take i y)) i (f (get_or x i d) (get_or y i d))
  merge_more x y i d p q = rw add-one (merge_suc x y i d p q)
