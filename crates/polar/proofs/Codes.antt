-- Codewords carry their data: what is written encodes them, and they are taken out again. Assumes nothing.
use Rattle.std.proofs.Common.{◌≡◌, ℕ, ◌≤◌, Bool, true, false, List, [], ◌∷◌, ◌++◌, length, take, drop, Ok, Err, Result, IfOk, sym, refl, ap, ◌∙◌, take_at, subst}
use lib.ListN.{length-map}
use Rattle.polar.specs.Shape.{balanced}
use Rattle.polar.specs.Words.{trues}
use Rattle.polar.specs.Bytes.{byte, bits, bytes}
use Rattle.polar.specs.Marks.{spread, collect}
use Rattle.polar.specs.Codewords.{codeword, data_of, Encodes, DataReturn}
use Rattle.polar.specs.declared.refusal.Refusal.{Refusal}
use Rattle.polar.specs.Plans.{TakenOut}
use Rattle.polar.proofs.Shapes.{leaves_balanced}
use Rattle.polar.proofs.Label.{length_label, unlabel_label}
use Rattle.polar.proofs.Relation.{labelled_label}
use Rattle.polar.proofs.Active.{length_spread, collect_spread, spread_clear}

pub bits_bytes : (w : List Bool) → bits (bytes w) ≡ w
bits_bytes [] = refl
bits_bytes (true ∷ w) = ap (λ z. true ∷ z) (bits_bytes w)
bits_bytes (false ∷ w) = ap (λ z. false ∷ z) (bits_bytes w)

-- the front of a buffer that a word was written into
pub front_bytes : (w : List Bool) (rest : List ℕ) (n : ℕ) → length w ≡ n → take n (bytes w ++ rest) ≡ bytes w
front_bytes w rest n size = take_at (bytes w) rest n (length-map w byte ∙ size)

pub length_codeword : (ms ds : List Bool) → 1 ≤ length ms → length (codeword ms ds) ≡ length ms
length_codeword ms ds some =
    let size = leaves_balanced (length ms) some in
    length_label (balanced (length ms)) (spread ms ds) (length_spread ms ds ∙ sym size) ∙ size

pub encodes : (ms ds : List Bool) → 1 ≤ length ms → length ds ≡ trues ms → Encodes ms ds (codeword ms ds)
encodes ms ds some count = record {
  leaves = spread ms ds;
  labelled = labelled_label (length ms) some (spread ms ds) (length_spread ms ds);
  frozen = spread_clear ms ds;
  active = collect_spread ms ds count;
}

-- the bytes that encoding writes, as bits again
pub written_encodes : (ms ds : List Bool) (rest : List ℕ) (n : ℕ) → 1 ≤ length ms → length ds ≡ trues ms → n ≡ length ms
    → Encodes ms ds (bits (take n (bytes (codeword ms ds) ++ rest)))
written_encodes ms ds rest n some count is =
    rw (front_bytes (codeword ms ds) rest n (length_codeword ms ds some ∙ sym is), bits_bytes (codeword ms ds)) (encodes ms ds some count)

pub data_return : DataReturn
data_return ms ds some count =
    ap (collect ms) (unlabel_label (balanced (length ms)) (spread ms ds) (length_spread ms ds ∙ sym (leaves_balanced (length ms) some)))
    ∙ collect_spread ms ds count

-- what is taken out of a codeword's bits
pub taken_out : (ms w ds : List Bool) (rest : List ℕ) (n : ℕ) → 1 ≤ length ms → n ≡ trues ms → length ds ≡ trues ms → w ≡ codeword ms ds
    → take n (bytes (data_of ms w) ++ rest) ≡ bytes ds
taken_out ms w ds rest n some is count code =
    let out : data_of ms w ≡ ds = ap (data_of ms) code ∙ data_return ms ds some count in
    rw out (front_bytes ds rest n (count ∙ sym is))

-- the same of a call
pub returned : (ms w labels : List Bool) (before after : List ℕ) (answer : Result ℕ Refusal) → 1 ≤ length ms → TakenOut ms w before answer labels after
    → IfOk answer (λ n. (ds : List Bool) → length ds ≡ trues ms → w ≡ codeword ms ds → take n after ≡ bytes ds)
returned ms w labels before after (Err e) some taken = tt
returned ms w labels before after (Ok n) some taken = λ ds count code. rw taken.1.1 (taken_out ms w ds (drop n before) n some taken.1.0 count code)

-- the same of another name for the bits that were taken out
pub returned_of : (ms w labels : List Bool) (before after : List ℕ) (answer : Result ℕ Refusal) → 1 ≤ length ms → TakenOut ms w before answer labels after → (bits : List Bool) → w ≡ bits
    → IfOk answer (λ n. (ds : List Bool) → length ds ≡ trues ms → bits ≡ codeword ms ds → take n after ≡ bytes ds)
returned_of ms w labels before after answer some taken bits same =
    subst (λ (u : List Bool). IfOk answer (λ n. (ds : List Bool) → length ds ≡ trues ms → u ≡ codeword ms ds → take n after ≡ bytes ds)) same (returned ms w labels before after answer some taken)
