-- Words of bits. Assumes nothing.
use Rattle.std.specs.Prelude.{ℕ, suc, Bool, true, false, not, List, [], ◌∷◌}
use Rattle.std.specs.Bool.{beq}

-- the sum of two bits modulo 2, as `^` computes it
abbrev pub xor : Bool → Bool → Bool
xor x y = not (beq x y)

-- two rows place by place; where the second has run out, the first passes through
abbrev pub merge : {A : Type 0} → (A → A → A) → List A → List A → List A
merge f [] ys = []
merge f (x ∷ xs) [] = x ∷ xs
merge f (x ∷ xs) (y ∷ ys) = f x y ∷ merge f xs ys

-- x + y modulo 2, place by place; the last bit of a longer x passes through
abbrev pub plus : List Bool → List Bool → List Bool
plus = merge xor

-- how many places hold `true`: a word's Hamming weight, and of marks the number of active leaves
abbrev pub trues : List Bool → ℕ
trues [] = 0
trues (true ∷ xs) = suc (trues xs)
trues (false ∷ xs) = trues xs

-- the sum of all bits modulo 2
abbrev pub parity : List Bool → Bool
parity [] = false
parity (b ∷ bs) = xor b (parity bs)
