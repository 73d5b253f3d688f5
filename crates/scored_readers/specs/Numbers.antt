-- Data numbers: a node's labels are those of the numbers below 2 to its active leaves. Assumes nothing.
use Rattle.std.specs.Prelude.{◌≡◌, ℕ, zero, suc, ◌+◌, ◌*◌, ◌/◌, ◌%◌, ◌^◌, ◌<◌, ◌≤◌, Bool, true, false, cond, List, [], ◌∷◌, ◌++◌, length, ◌==◌, refl}
use Rattle.std.proofs.Common.{sym, ap, ◌∙◌, arith, mul_assoc, mul_comm, div-one, zero-add, pow-suc, length-append, pow_pos}
use Rattle.std.proofs.Math.Nat.{add-mul-div_right, add-mul-mod_self_right, div-eq_of_lt, div-div-eq-div-mul, zero-div}
use Rattle.polar.specs.Shape.{leaves}
use Rattle.polar.specs.Words.{xor, plus, trues}
use Rattle.polar.specs.Labels.{label, unlabel}
use Rattle.polar.specs.Marks.{spread, collect, Codeword}
use Rattle.polar.specs.Codewords.{tree_of}
use Rattle.polar.proofs.Shapes.{leaves_balanced}
use Rattle.polar.proofs.Sums.{zeros}
use Rattle.polar.proofs.Label.{length_unlabel, label_unlabel, label_plus, label_zeros}
use Rattle.polar.proofs.Active.{length_spread, length_collect, spread_clear, spread_collect}
use Rattle.polar.proofs.Parts.{label_codeword}
use Rattle.polar.proofs.InPlace.{length_labelled}
use Rattle.scored_readers.specs.ExhaustiveReading.{digits, data_word}

pub length_digits : (k n : ℕ) → length (digits k n) ≡ k
length_digits zero n = refl
length_digits (suc k) n = ap suc (length_digits k n)

-- ---- a number and its digits

power : (k : ℕ) → 2 ^ suc k ≡ 2 * 2 ^ k
power k = pow-suc 2 k ∙ mul_comm (2 ^ k) 2

-- the number that has these digits, the highest first
abbrev number_of : List Bool → ℕ
number_of [] = 0
number_of (d ∷ ds) = cond d 1 0 * 2 ^ length ds + number_of ds

number_least : (ds : List Bool) → number_of ds < 2 ^ length ds
number_least [] = omega arith
number_least (true ∷ ds) = omega (arith, number_least ds, power (length ds))
number_least (false ∷ ds) = omega (arith, number_least ds, power (length ds))

-- higher digits do not matter
digits_high : (k q n : ℕ) → digits k (n + q * 2 ^ k) ≡ digits k n
digits_high zero q n = refl
digits_high (suc k) q n =
    let moved : q * 2 ^ suc k ≡ q * 2 * 2 ^ k = ap (λ p. q * p) (power k) ∙ sym (mul_assoc q 2 (2 ^ k)) in
    let head : (n + q * 2 * 2 ^ k) / 2 ^ k % 2 ≡ n / 2 ^ k % 2 = ap (λ p. p % 2) (add-mul-div_right n (q * 2) (pow_pos k)) ∙ add-mul-mod_self_right (n / 2 ^ k) q 2 in
    rw (moved, head, digits_high k (q * 2) n)

own_digit : (d : Bool) → (cond d 1 0 % 2 == 1) ≡ d
own_digit true = refl
own_digit false = refl

digits_number : (ds : List Bool) → digits (length ds) (number_of ds) ≡ ds
digits_number [] = refl
digits_number (d ∷ ds) =
    let k = length ds in
    let n = number_of ds in
    let top : ℕ = cond d 1 0 in
    let swap : top * 2 ^ k + n ≡ n + top * 2 ^ k = omega arith in
    let quotient : (n + top * 2 ^ k) / 2 ^ k ≡ top = add-mul-div_right n top (pow_pos k) ∙ ap (λ p. p + top) (div-eq_of_lt (number_least ds)) ∙ zero-add top in
    rw (swap, quotient, own_digit d, digits_high k top n, digits_number ds)

digits_zero : (k : ℕ) → digits k 0 ≡ zeros k
digits_zero zero = refl
digits_zero (suc k) = rw (zero-div (2 ^ k), digits_zero k)

-- ---- an odd number after an even one

xor_none : (b : Bool) → b ≡ xor b false
xor_none true = refl
xor_none false = refl

odd_digit : (k n : ℕ) → n % 2 ≡ 0 → ((n + 1) / 2 ^ k % 2 == 1) ≡ xor (n / 2 ^ k % 2 == 1) (1 / 2 ^ k % 2 == 1)
odd_digit zero n even =
    let odd : (n + 1) % 2 ≡ 1 = omega arith in
    rw (div-one (n + 1), div-one n, odd, even)
odd_digit (suc k) n even =
    let half : (n + 1) / 2 ≡ n / 2 = omega arith in
    let apart : (m : ℕ) → m / 2 ^ suc k ≡ m / 2 / 2 ^ k = λ m. ap (λ p. m / p) (power k) ∙ sym (div-div-eq-div-mul m 2 (2 ^ k)) in
    rw (apart (n + 1), apart n, apart 1, half, zero-div (2 ^ k)) (xor_none (n / 2 / 2 ^ k % 2 == 1))

digits_odd : (k n : ℕ) → n % 2 ≡ 0 → digits k (n + 1) ≡ plus (digits k n) (digits k 1)
digits_odd zero n even = refl
digits_odd (suc k) n even = rw (odd_digit k n even, digits_odd k n even)

spread_plus : (ms a b : List Bool) → length a ≡ length b → spread ms (plus a b) ≡ plus (spread ms a) (spread ms b)
spread_plus [] a b same = refl
spread_plus (false ∷ ms) a b same = ap (λ z. false ∷ z) (spread_plus ms a b same)
spread_plus (true ∷ ms) [] [] same = ap (λ z. false ∷ z) (spread_plus ms [] [] same)
spread_plus (true ∷ ms) [] (y ∷ b) same = absurd (omega arith)
spread_plus (true ∷ ms) (x ∷ a) [] same = absurd (omega arith)
spread_plus (true ∷ ms) (x ∷ a) (y ∷ b) same = ap (λ z. xor x y ∷ z) (spread_plus ms a b (omega arith))

-- ---- the labels of numbers

pub length_data_word : (ms : List Bool) (n : ℕ) → length (data_word ms n) ≡ length ms
length_data_word ms n =
    let bs = spread ms (digits (trues ms) n) in
    let long : length bs ≡ length ms = length_spread ms (digits (trues ms) n) in
    rw (← long) (length_labelled bs)

-- two of them behind each other
pub length_rows : (ms rows : List Bool) (m n : ℕ) → rows ≡ data_word ms m ++ data_word ms n → length rows ≡ 2 * length ms
length_rows ms rows m n is =
    ap length is ∙ length-append (data_word ms m) (data_word ms n) ∙ omega (arith, length_data_word ms m, length_data_word ms n)

spread_zeros : (ms : List Bool) (k : ℕ) → spread ms (zeros k) ≡ zeros (length ms)
spread_zeros [] k = refl
spread_zeros (false ∷ ms) k = ap (λ z. false ∷ z) (spread_zeros ms k)
spread_zeros (true ∷ ms) zero = ap (λ z. false ∷ z) (spread_zeros ms zero)
spread_zeros (true ∷ ms) (suc k) = ap (λ z. false ∷ z) (spread_zeros ms k)

spread_lone : (ms : List Bool) → trues ms ≡ 1 → spread ms (true ∷ []) ≡ ms
spread_lone [] one = refl
spread_lone (false ∷ ms) one = ap (λ z. false ∷ z) (spread_lone ms one)
spread_lone (true ∷ ms) one = ap (λ z. true ∷ z) (none ms (omega arith))
  where
    none : (ms : List Bool) → trues ms ≡ 0 → spread ms [] ≡ ms
    none [] h = refl
    none (true ∷ ms) h = absurd (omega arith)
    none (false ∷ ms) h = ap (λ z. false ∷ z) (none ms h)

-- one active leaf: number 1 has the label of that leaf alone
pub lone_word : (ms : List Bool) → trues ms ≡ 1 → data_word ms 1 ≡ label (tree_of ms) ms
lone_word ms one = ap (λ k. label (tree_of ms) (spread ms (digits k 1))) one ∙ ap (label (tree_of ms)) (spread_lone ms one)

module _ (ms : List Bool) (some : 1 ≤ length ms) where
  size : leaves (tree_of ms) ≡ length ms
  size = leaves_balanced (length ms) some

  pub zero_word : data_word ms 0 ≡ zeros (length ms)
  zero_word =
      ap (λ ds. label (tree_of ms) (spread ms ds)) (digits_zero (trues ms)) ∙ ap (label (tree_of ms)) (spread_zeros ms (trues ms) ∙ ap zeros (sym size))
      ∙ label_zeros (tree_of ms) ∙ ap zeros size

  pub odd_word : (n : ℕ) → n % 2 ≡ 0 → data_word ms (n + 1) ≡ plus (data_word ms n) (data_word ms 1)
  odd_word n even =
      let k = trues ms in
      let long : (m : ℕ) → length (spread ms (digits k m)) ≡ leaves (tree_of ms) = λ m. length_spread ms (digits k m) ∙ sym size in
      ap (λ ds. label (tree_of ms) (spread ms ds)) (digits_odd k n even)
      ∙ ap (label (tree_of ms)) (spread_plus ms (digits k n) (digits k 1) (length_digits k n ∙ sym (length_digits k 1)))
      ∙ label_plus (tree_of ms) (spread ms (digits k n)) (spread ms (digits k 1)) (long n) (long 1)

  pub data_codeword : (n : ℕ) → Codeword (tree_of ms) ms (data_word ms n)
  data_codeword n =
      let ds = digits (trues ms) n in
      label_codeword (tree_of ms) ms (spread ms ds) (length_spread ms ds ∙ sym size) (spread_clear ms ds)

  -- every label has a number
  pub codeword_number : (word : List Bool) → Codeword (tree_of ms) ms word → (n : ℕ) × (n < 2 ^ trues ms) × (data_word ms n ≡ word)
  codeword_number word code =
      let s = tree_of ms in
      let bs = unlabel s word in
      let ds = collect ms bs in
      let long : length bs ≡ length ms = length_unlabel s word code.0 ∙ size in
      let count : length ds ≡ trues ms = length_collect ms bs long in
      let leaf_labels : spread ms (digits (trues ms) (number_of ds)) ≡ bs = rw (← count, digits_number ds) (spread_collect ms bs long code.1) in
      (number_of ds, omega (arith, rw count at (number_least ds)), ap (label s) leaf_labels ∙ label_unlabel s word code.0)
