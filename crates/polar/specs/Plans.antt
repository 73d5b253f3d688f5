-- Plans by their marks, and the calls on them. Assumes nothing.
use Rattle.std.specs.Prelude.{◌≡◌, ℕ, Bool, ◌&&◌, List, ◌++◌, length, drop, None, vec_items, Option, Result, ◌==◌, nat_lt}
use Rattle.polar.specs.declared.plan.Plan.{Plan}
use Rattle.polar.specs.declared.refusal.Refusal.{Refusal}
use Rattle.polar.specs.declared.refusal.Refusal.TheVariants.{Marks, Data, Output, ItemCount}
use Rattle.polar.specs.Words.{trues}
use Rattle.polar.specs.Bytes.{all_bits, bits, bytes}
use Rattle.polar.specs.Labels.{unlabel}
use Rattle.polar.specs.Codewords.{tree_of, codeword, data_of}
use Rattle.polar.specs.Refusals.{Outcome, refused_if, refused_unless, length_due}

-- what contracts see of a plan
abbrev pub marks_of : Plan → List Bool
marks_of plan = vec_items plan.marks

-- filling a plan of n leaves with these marks: the length comes first
abbrev pub fill_due : ℕ → List ℕ → Option Refusal
fill_due n ms =
    length_due n
    (refused_unless (length ms == n && all_bits ms && nat_lt 0 (trues (bits ms))) Marks None)

abbrev pub Filled : Plan → ℕ → List ℕ → Result (Unit {0}) Refusal → Plan → Type 0
Filled before n ms answer after = Outcome (fill_due n ms) answer (λ _. marks_of after ≡ bits ms) (after ≡ before)

-- the same with marks that are bits already
abbrev pub marks_due : List Bool → Option Refusal
marks_due ms = length_due (length ms) (refused_unless (nat_lt 0 (trues ms)) Marks None)

abbrev pub MarksSet : Plan → List Bool → Result (Unit {0}) Refusal → Plan → Type 0
MarksSet before ms answer after = Outcome (marks_due ms) answer (λ _. marks_of after ≡ ms) (after ≡ before)

-- encoding these data into a buffer of `room` bytes: the data come first
abbrev pub encode_due : List Bool → List ℕ → ℕ → Option Refusal
encode_due ms ds room =
    refused_unless (length ds == trues ms && all_bits ds) Data
    (refused_if (nat_lt room (length ms)) Output None)

-- An accepted call answers the block's length and writes the codeword into the buffer's front; the tail stays.
abbrev pub Encoded : List Bool → List ℕ → List ℕ → Result ℕ Refusal → List ℕ → Type 0
Encoded ms ds before answer after =
    Outcome (encode_due ms ds (length before)) answer
    (λ n. (n ≡ length ms) × (after ≡ bytes (codeword ms (bits ds)) ++ drop n before))
    (after ≡ before)

-- a word of a plan's blocks: the number of bits comes first, then the bits
abbrev pub word_due : List Bool → List ℕ → Option Refusal → Option Refusal
word_due ms word later = refused_unless (length word == length ms) ItemCount (refused_unless (all_bits word) Data later)

-- taking data out of these bits into a buffer of `room` bytes: the word comes first
abbrev pub extract_due : List Bool → List ℕ → ℕ → Option Refusal
extract_due ms word room = word_due ms word (refused_if (nat_lt room (trues ms)) Output None)

-- An accepted call answers the number of data and writes them into the buffer's front; the tail stays.
abbrev pub Extracted : List Bool → List ℕ → List ℕ → Result ℕ Refusal → List ℕ → Type 0
Extracted ms word before answer after =
    Outcome (extract_due ms word (length before)) answer
    (λ k. (k ≡ trues ms) × (after ≡ bytes (data_of ms (bits word)) ++ drop k before))
    (after ≡ before)

-- The same from bits that are lent and become the labels of their leaves: no byte can be wrong there.
abbrev pub take_out_due : List Bool → List Bool → ℕ → Option Refusal
take_out_due ms word room =
    refused_unless (length word == length ms) ItemCount
    (refused_if (nat_lt room (trues ms)) Output None)

abbrev pub TakenOut : List Bool → List Bool → List ℕ → Result ℕ Refusal → List Bool → List ℕ → Type 0
TakenOut ms word before answer labels after =
    Outcome (take_out_due ms word (length before)) answer
    (λ k. (k ≡ trues ms) × (after ≡ bytes (data_of ms word) ++ drop k before) × (labels ≡ unlabel (tree_of ms) word))
    ((after ≡ before) × (labels ≡ word))
