-- The data read of a capture by counts are the sender's, as long as the charges stay under the bound. Assumes nothing.
use Rattle.std.proofs.Common.{◌≡◌, ℕ, zero, suc, ◌+◌, ◌*◌, ◌<◌, ◌≤◌, Bool, true, ◌&&◌, eqb, ltb, List, [], ◌∷◌, map, length, ℤ, IfOk, None, Ok, Err, Result, sym, refl, ap, ◌∙◌, subst, ap₂, arith}
use lib.ListN.{length-map}
use Rattle.std.proofs.lemmas.Bool.{and_parts, ltb-true, ltb-false, eqb-true}
use Rattle.polar.specs.declared.refusal.Refusal.{Refusal}
use Rattle.polar.specs.declared.refusal.Refusal.TheVariants.{Range, Data}
use Rattle.polar.specs.Refusals.{refused_unless}
use Rattle.polar.specs.Words.{trues}
use Rattle.polar.specs.Bytes.{bit, byte, bits, bytes, all_bits}
use Rattle.polar.specs.Marks.{weight}
use Rattle.polar.specs.Codewords.{tree_of, codeword}
use Rattle.polar.proofs.Dues.{if_none, unless_none}
use Rattle.polar.proofs.Codes.{length_codeword}
use Rattle.soft.specs.Counts.{counted, count_kind, top_count}
use Rattle.readers.specs.Readings.{total}
use Rattle.readers.specs.Blocks.{NearReadsTrue}
use Rattle.levels.specs.Level.{top_exponent}
use Rattle.levels.proofs.Rows.{rows_return}
use Rattle.storage.proofs.RoundTrip.{loads_what_is_stored}
use Rattle.captures.specs.Captures.{Captured, full, made_of, shortfall}
use Rattle.captures.specs.Calls.{make_due}
use Rattle.captures.proofs.Counts.{within_from_all, full_within}
use Rattle.captures.proofs.Shortfalls.{shortfall_full}
use Rattle.analyser.specs.Assurance.{Planned, LightHistoriesReadTrue}
use Rattle.analyser.specs.Reading.{values_of}
use Rattle.analyser.proofs.Keeping.{Kept, keeps}

-- a count falls short of a bit as a soft value does
pub total_counts : (counts : List ℤ) (word : List Bool) → total count_kind 0 (map counted counts) word ≡ shortfall top_count counts word
total_counts [] word = refl
total_counts (v ∷ counts) [] = refl
total_counts (v ∷ counts) (b ∷ word) = ap (λ n. count_kind.shortfall (counted v) b 0 + n) (total_counts counts word)

bit_back : (b : ℕ) → b < 2 → byte (bit b) ≡ b
bit_back zero h = refl
bit_back (suc zero) h = refl
bit_back (suc (suc b)) h = absurd (omega arith)

bytes_back : (ds : List ℕ) → all_bits ds ≡ true → bytes (bits ds) ≡ ds
bytes_back [] h = refl
bytes_back (d ∷ ds) h =
    let parts = and_parts (ltb d 2) (all_bits ds) h in
    ap₂ (λ x xs. x ∷ xs) (bit_back d (ltb-true d 2 parts.0)) (bytes_back ds parts.1)

-- what an accepted making was given
pub record Sent (ms : List Bool) (k : ℕ) (sent : List ℕ) : Type 0 where
  pub small : k ≤ 6
  pub many : length (bits sent) ≡ trues ms
  pub back : bytes (bits sent) ≡ sent

pub sent_from : (ms : List Bool) (k : ℕ) (sent : List ℕ) → make_due top_count ms k sent ≡ None → Sent ms k sent
sent_from ms k sent due =
    let later = refused_unless (eqb (length sent) (trues ms) && all_bits sent) Data None in
    let scale = if_none (ltb top_exponent k) Range later due in
    let tests = and_parts (eqb (length sent) (trues ms)) (all_bits sent) (unless_none (eqb (length sent) (trues ms) && all_bits sent) Data None scale.1).0 in
    record {
      small = ltb-false top_exponent k scale.0;
      many = length-map sent bit ∙ eqb-true (length sent) (trues ms) tests.0;
      back = bytes_back sent tests.1;
    }

-- a capture is made on its codeword
made_kept : (ms : List Bool) (k : ℕ) (sent : List ℕ) → Planned ms → Kept top_count ms k (codeword ms (bits sent)) 0 (made_of top_count ms (bits sent) k)
made_kept ms k sent plan =
    let word = codeword ms (bits sent) in
    record {
      same_plan = refl;
      same_scale = refl;
      whole = length-map word (full top_count) ∙ length_codeword ms (bits sent) plan.some;
      within = within_from_all top_count (map (full top_count) word) (full_within top_count word);
      near = omega (arith, shortfall_full top_count word);
    }

pub light : (now : Captured) (read : List ℕ) → NearReadsTrue count_kind now.marks_row (values_of counted now) read → LightHistoriesReadTrue top_count now read
light now read near place start ms k sent past plan makes history under =
    let word = codeword ms (bits sent) in
    let given = sent_from ms k sent makes.0 in
    let first = subst (Kept top_count ms k word 0) (sym makes.1) (made_kept ms k sent plan) in
    let kept = keeps top_count ms k word plan given.small (rows_return top_count k (omega arith) (omega (arith, given.small))) (loads_what_is_stored top_count (omega arith)) start past now first history in
    let close : total count_kind 0 (values_of counted now) word < count_kind.unit * weight (tree_of ms) ms = omega (arith, total_counts now.count_row word, kept.near, under) in
    subst (λ m. NearReadsTrue count_kind m (values_of counted now) read) kept.same_plan near (bits sent) given.many close ∙ given.back

pub light_made : (now : Captured) (answer : Result ℕ Refusal) (front : ℕ → List ℕ)
    → IfOk answer (λ k. NearReadsTrue count_kind now.marks_row (values_of counted now) (front k)) → IfOk answer (λ k. LightHistoriesReadTrue top_count now (front k))
light_made now (Ok n) front near = light now (front n) near
light_made now (Err e) front near = tt
