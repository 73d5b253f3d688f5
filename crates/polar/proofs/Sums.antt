-- The laws of the bitwise xor, and of the number of places that hold `true`. Assumes nothing.
use Rattle.std.proofs.Common.{◌≡◌, ℕ, zero, suc, ◌+◌, ◌≤◌, Bool, true, false, List, [], ◌∷◌, ◌++◌, length, replicate, sym, refl, ap, ◌∙◌, arith}
use Rattle.polar.specs.Words.{xor, plus, trues}
use Rattle.polar.proofs.Merges.{length_merge}

xor_back : (a b : Bool) → xor (xor a b) b ≡ a
xor_back true true = refl
xor_back true false = refl
xor_back false true = refl
xor_back false false = refl

-- adding y twice changes nothing
pub plus_back : (x y : List Bool) → plus (plus x y) y ≡ x
plus_back [] y = refl
plus_back (a ∷ x) [] = refl
plus_back (a ∷ x) (b ∷ y) = let head = xor_back a b in let tail = plus_back x y in cc

xor_swap : (a b c d : Bool) → xor (xor a b) (xor c d) ≡ xor (xor a c) (xor b d)
xor_swap a b c d = grind arith

xor_false : (a : Bool) → xor a false ≡ a
xor_false true = refl
xor_false false = refl

xor_same : (a : Bool) → xor a a ≡ false
xor_same true = refl
xor_same false = refl

false_xor : (a : Bool) → xor false a ≡ a
false_xor true = refl
false_xor false = refl

-- the two inner words may change places
pub plus_swap : (x y x' y' : List Bool) → length x ≡ length x' → length y ≡ length y' → plus (plus x y) (plus x' y') ≡ plus (plus x x') (plus y y')
plus_swap [] y x' y' p q = refl
plus_swap (a ∷ x) y [] y' p q = absurd (omega arith)
plus_swap (a ∷ x) [] (c ∷ x') [] p q = refl
plus_swap (a ∷ x) [] (c ∷ x') (d ∷ y') p q = absurd (omega arith)
plus_swap (a ∷ x) (b ∷ y) (c ∷ x') [] p q = absurd (omega arith)
plus_swap (a ∷ x) (b ∷ y) (c ∷ x') (d ∷ y') p q =
    let head = xor_swap a b c d in
    let tail = plus_swap x y x' y' (omega arith) (omega arith) in
    cc

abbrev pub zeros : ℕ → List Bool
zeros n = replicate n false

pub plus_zeros : (x : List Bool) (n : ℕ) → plus x (zeros n) ≡ x
plus_zeros [] n = refl
plus_zeros (a ∷ x) zero = refl
plus_zeros (a ∷ x) (suc n) = let head = xor_false a in let tail = plus_zeros x n in cc

pub zeros_plus : (n : ℕ) (y : List Bool) → length y ≡ n → plus (zeros n) y ≡ y
zeros_plus zero [] p = refl
zeros_plus zero (b ∷ y) p = absurd (omega arith)
zeros_plus (suc n) [] p = absurd (omega arith)
zeros_plus (suc n) (b ∷ y) p = let head = false_xor b in let tail = zeros_plus n y (omega arith) in cc

pub plus_same : (x : List Bool) → plus x x ≡ zeros (length x)
plus_same [] = refl
plus_same (a ∷ x) = let head = xor_same a in let tail = plus_same x in cc

pub trues_append : (x y : List Bool) → trues (x ++ y) ≡ trues x + trues y
trues_append [] y = omega arith
trues_append (true ∷ x) y = omega (arith, trues_append x y)
trues_append (false ∷ x) y = trues_append x y

pub trues_zeros : (n : ℕ) → trues (zeros n) ≡ 0
trues_zeros zero = refl
trues_zeros (suc n) = trues_zeros n

pub trues_bound : (x : List Bool) → trues x ≤ length x
trues_bound [] = omega arith
trues_bound (true ∷ x) = omega (arith, trues_bound x)
trues_bound (false ∷ x) = omega (arith, trues_bound x)

-- a word with no `true` is all zeros
pub zeros_from_trues : (x : List Bool) → trues x ≡ 0 → x ≡ zeros (length x)
zeros_from_trues [] p = refl
zeros_from_trues (true ∷ x) p = absurd (omega arith)
zeros_from_trues (false ∷ x) p = ap (λ z. false ∷ z) (zeros_from_trues x p)

-- no place of x is lost that is neither in the xor nor in y
pub trues_plus_bound : (x y : List Bool) → trues x ≤ trues (plus x y) + trues y
trues_plus_bound [] y = omega arith
trues_plus_bound (a ∷ x) [] = omega arith
trues_plus_bound (true ∷ x) (true ∷ y) = omega (arith, trues_plus_bound x y)
trues_plus_bound (true ∷ x) (false ∷ y) = omega (arith, trues_plus_bound x y)
trues_plus_bound (false ∷ x) (true ∷ y) = omega (arith, trues_plus_bound x y)
trues_plus_bound (false ∷ x) (false ∷ y) = omega (arith, trues_plus_bound x y)

pub trues_zeros_plus : (n : ℕ) (y : List Bool) → length y ≤ n → trues (plus (zeros n) y) ≡ trues y
trues_zeros_plus zero [] p = refl
trues_zeros_plus zero (b ∷ y) p = absurd (omega arith)
trues_zeros_plus (suc n) [] p = trues_zeros n
trues_zeros_plus (suc n) (true ∷ y) p = ap suc (trues_zeros_plus n y (omega arith))
trues_zeros_plus (suc n) (false ∷ y) p = trues_zeros_plus n y (omega arith)

-- words at distance 0 are equal
pub same_from_plus : (x y : List Bool) → length x ≡ length y → trues (plus x y) ≡ 0 → x ≡ y
same_from_plus x y p q =
    let z : plus x y ≡ zeros (length y) = zeros_from_trues (plus x y) q ∙ ap zeros (length_merge xor x y ∙ p) in
    sym (plus_back x y) ∙ ap (λ w. plus w y) z ∙ zeros_plus (length y) y refl
