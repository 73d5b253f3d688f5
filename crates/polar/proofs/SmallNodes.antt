-- Labels of nodes with at most eight leaves, by trying all words. Assumes nothing.
use Rattle.std.proofs.Common.{◌≡◌, ℕ, zero, suc, ◌<◌, ◌≤◌, Bool, true, false, ◌&&◌, List, [], ◌∷◌, length, get_or, set, refl, ap, ⊎_elim, arith}
use Rattle.std.specs.Bool.{beq}
use Rattle.std.proofs.lemmas.Bool.{and_parts, cases_eq}
use Rattle.polar.specs.Shape.{grown, balanced}
use Rattle.polar.specs.Words.{xor}
use Rattle.polar.specs.Labels.{label, unlabel}

-- whether every word of this length passes a test
each_word : ℕ → (List Bool → Bool) → Bool
each_word zero p = p []
each_word (suc n) p = each_word n (λ w. p (false ∷ w)) && each_word n (λ w. p (true ∷ w))

one_word : (p : List Bool → Bool) (w : List Bool) → each_word (length w) p ≡ true → p w ≡ true
unfolding each_word
one_word p [] h = h
one_word p (false ∷ w) h = one_word (λ v. p (false ∷ v)) w (and_parts (each_word (length w) (λ v. p (false ∷ v))) _ h).0
one_word p (true ∷ w) h = one_word (λ v. p (true ∷ v)) w (and_parts (each_word (length w) (λ v. p (false ∷ v))) _ h).1

equal : List Bool → List Bool → Bool
equal [] [] = true
equal [] (y ∷ ys) = false
equal (x ∷ xs) [] = false
equal (x ∷ xs) (y ∷ ys) = beq x y && equal xs ys

equal_is : (xs ys : List Bool) → equal xs ys ≡ true → xs ≡ ys
unfolding equal
equal_is [] [] h = refl
equal_is [] (y ∷ ys) h = cc
equal_is (x ∷ xs) [] h = cc
equal_is (false ∷ xs) (false ∷ ys) h = ap (◌∷◌ false) (equal_is xs ys h)
equal_is (true ∷ xs) (true ∷ ys) h = ap (◌∷◌ true) (equal_is xs ys h)
equal_is (false ∷ xs) (true ∷ ys) h = cc
equal_is (true ∷ xs) (false ∷ ys) h = cc

-- whether f and g agree on each word of this length
same_at : (List Bool → List Bool) → (List Bool → List Bool) → ℕ → Bool
same_at f g n = each_word n (λ w. equal (f w) (g w))

agree : (f g : List Bool → List Bool) (w : List Bool) → same_at f g (length w) ≡ true → f w ≡ g w
unfolding same_at
agree f g w tried = equal_is (f w) (g w) (one_word (λ v. equal (f v) (g v)) w tried)

-- `bits[i] ^= bits[j]`
abbrev pub add_at : ℕ → ℕ → List Bool → List Bool
add_at i j bits = set bits i (xor (get_or bits i false) (get_or bits j false))

pub two_label : (bits : List Bool) → length bits ≡ 2 → add_at 0 1 bits ≡ label (balanced (length bits)) bits
unfolding same_at each_word equal grown balanced
two_label bits h = agree (add_at 0 1) (label (balanced (length bits))) bits (rw h refl)

pub three_label : (bits : List Bool) → length bits ≡ 3 → add_at 0 2 (add_at 0 1 bits) ≡ label (balanced (length bits)) bits
unfolding same_at each_word equal grown balanced
three_label bits h = agree (λ w. add_at 0 2 (add_at 0 1 w)) (label (balanced (length bits))) bits (rw h refl)

pub four_label : (bits : List Bool) → length bits ≡ 4 → add_at 1 3 (add_at 0 2 (add_at 2 3 (add_at 0 1 bits))) ≡ label (balanced (length bits)) bits
unfolding same_at each_word equal grown balanced
four_label bits h = agree (λ w. add_at 1 3 (add_at 0 2 (add_at 2 3 (add_at 0 1 w)))) (label (balanced (length bits))) bits (rw h refl)

pub two_unlabel : (bits : List Bool) → length bits ≡ 2 → add_at 0 1 bits ≡ unlabel (balanced (length bits)) bits
unfolding grown balanced
two_unlabel [] h = absurd (omega arith)
two_unlabel (a ∷ []) h = absurd (omega arith)
two_unlabel (a ∷ b ∷ []) h = refl
two_unlabel (a ∷ b ∷ c ∷ rest) h = absurd (omega arith)

pub three_unlabel : (bits : List Bool) → length bits ≡ 3 → add_at 0 1 (add_at 0 2 bits) ≡ unlabel (balanced (length bits)) bits
unfolding grown balanced
three_unlabel [] h = absurd (omega arith)
three_unlabel (a ∷ []) h = absurd (omega arith)
three_unlabel (a ∷ b ∷ []) h = absurd (omega arith)
three_unlabel (a ∷ b ∷ c ∷ []) h = refl
three_unlabel (a ∷ b ∷ c ∷ d ∷ rest) h = absurd (omega arith)

pub four_unlabel : (bits : List Bool) → length bits ≡ 4 → add_at 2 3 (add_at 0 1 (add_at 1 3 (add_at 0 2 bits))) ≡ unlabel (balanced (length bits)) bits
unfolding grown balanced
four_unlabel [] h = absurd (omega arith)
four_unlabel (a ∷ []) h = absurd (omega arith)
four_unlabel (a ∷ b ∷ []) h = absurd (omega arith)
four_unlabel (a ∷ b ∷ c ∷ []) h = absurd (omega arith)
four_unlabel (a ∷ b ∷ c ∷ d ∷ []) h = refl
four_unlabel (a ∷ b ∷ c ∷ d ∷ e ∷ rest) h = absurd (omega arith)

-- whether each node of fewer than n leaves undoes itself
undone_below : ℕ → Bool
undone_below zero = true
undone_below (suc n) = same_at (label (balanced n)) (unlabel (balanced n)) n && undone_below n

undone_at : (k n : ℕ) → n < k → undone_below k ≡ true → same_at (label (balanced n)) (unlabel (balanced n)) n ≡ true
unfolding undone_below
undone_at zero n h all = absurd (omega arith)
undone_at (suc k) n h all =
    let parts = and_parts (same_at (label (balanced k)) (unlabel (balanced k)) k) (undone_below k) all in
    ⊎_elim
    (λ last. rw last parts.0)
    (λ other. undone_at k n (omega (arith, other)) parts.1)
    (cases_eq n k)

undone_below_nine : undone_below 9 ≡ true
unfolding undone_below same_at each_word equal grown balanced
undone_below_nine = refl

-- a node of up to eight leaves undoes itself
pub undoes_itself : (e : List Bool) → length e ≤ 8 → label (balanced (length e)) e ≡ unlabel (balanced (length e)) e
undoes_itself e short = agree (label (balanced (length e))) (unlabel (balanced (length e))) e (undone_at 9 (length e) (omega arith) undone_below_nine)
