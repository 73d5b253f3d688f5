-- The rows that the call writes. Assumes nothing.
use Rattle.std.proofs.Common.{◌≡◌, ℕ, ◌-◌, ◌≤◌, Bool, true, false, List, [], ◌∷◌, ◌++◌, length, take, drop, None, Ok, sym, refl, ap, ◌∙◌, ap₂, arith, take_at}
use borrow.Rule.Slice.PartMut.{post_of, Post-is}
use lib.ListN.{length-map, length-replicate}
use native.Mathlib.Nat.{sub-zero}
use Rattle.std.proofs.lemmas.Bool.{le-ltb}
use Rattle.polar.specs.Words.{trues}
use Rattle.polar.specs.Bytes.{byte, all_bits, bits, bytes}
use Rattle.polar.specs.Codewords.{codeword}
use Rattle.polar.specs.Plans.{Encoded}
use Rattle.polar.proofs.Codes.{bits_bytes, front_bytes, length_codeword}
use Rattle.analyser.specs.Assurance.{LimitIsTight}
use Rattle.analyser.specs.Worst.{plan_weight, zero_word, leaf_word, places_of, worst_due, WorstWritten}
use Rattle.analyser.proofs.Lightest.{length_leaf_word, first_weighs}
use Rattle.analyser.proofs.Places.{length_places}
use Rattle.analyser.proofs.Confusion.{tight}

pub all_bits_bytes : (w : List Bool) → all_bits (bytes w) ≡ true
all_bits_bytes [] = refl
all_bits_bytes (true ∷ w) = all_bits_bytes w
all_bits_bytes (false ∷ w) = all_bits_bytes w

-- the front of a row that data are encoded into
pub codeword_front : (ms : List Bool) (ds before after : List ℕ) (m n : ℕ) → 1 ≤ length ms → n ≡ length ms → Encoded ms ds before (Ok m) after → take (n - 0) after ≡ bytes (codeword ms (bits ds))
codeword_front ms ds before after m n some is done =
    let w = codeword ms (bits ds) in
    let size : length (bytes w) ≡ n = length-map w byte ∙ length_codeword ms (bits ds) some ∙ sym is in
    rw (done.1.1, sub-zero) (take_at (bytes w) (drop m before) n size)

pub encoded_front : (ms : List Bool) (ds before after : List ℕ) (m n : ℕ) → 1 ≤ length ms → n ≡ length ms → Encoded ms ds before (Ok m) after → bits (take (n - 0) after) ≡ codeword ms (bits ds)
encoded_front ms ds before after m n some is done = ap bits (codeword_front ms ds before after m n some is done) ∙ bits_bytes (codeword ms (bits ds))

-- no row is too short
pub nothing_due : (ms : List Bool) (one other places : ℕ) → trues ms ≤ one → trues ms ≤ other → plan_weight ms ≤ places → worst_due ms one other places ≡ None
nothing_due ms one other places a b c = rw (le-ltb one (trues ms) a, le-ltb other (trues ms) b, le-ltb places (plan_weight ms) c)

-- a front written over a row
pub row_is : (k n : ℕ) (front row : List ℕ) (w : List Bool) → k ≡ n → front ≡ bytes w → front ++ post_of 0 (k - 0) row ≡ bytes w ++ drop n row
row_is k n front row w is same = ap₂ (λ a b. a ++ b) same (Post-is 0 k row (omega arith) ∙ ap (λ m. drop m row) is)

-- what is written shows that the bound cannot be raised
pub written_tight : (top : ℕ) (ms : List Bool) (one other places : List ℕ) (n : ℕ) (one' other' places' : List ℕ) → WorstWritten ms one other places n one' other' places'
    → LimitIsTight top ms (bits (take (trues ms) one')) (bits (take (trues ms) other')) (take n places')
written_tight top ms one other places n one' other' places' w =
    let data_word = leaf_word ms w.leaf in
    let found = places_of (codeword ms data_word) in
    let first : bits (take (trues ms) one') ≡ zero_word ms =
    ap (λ row. bits (take (trues ms) row)) w.one_is ∙ ap bits (front_bytes (zero_word ms) (drop (trues ms) one) (trues ms) (length-replicate (trues ms) false)) ∙ bits_bytes (zero_word ms) in
    let second : bits (take (trues ms) other') ≡ data_word =
    ap (λ row. bits (take (trues ms) row)) w.other_is ∙ ap bits (front_bytes data_word (drop (trues ms) other) (trues ms) (length_leaf_word ms w.leaf)) ∙ bits_bytes data_word in
    let many : length found ≡ n = length_places (codeword ms data_word) ∙ first_weighs ms w.leaf w.is_first ∙ sym w.answer in
    let third : take n places' ≡ found = ap (take n) w.places_is ∙ take_at found (drop n places) n many in
    rw (first, second, third) (tight top ms w.leaf w.is_first)
