-- The word that encoding leaves, and the questions about it. Assumes nothing.
use Rattle.std.proofs.Common.{◌≡◌, ℕ, ◌≤◌, Bool, ◌&&◌, eqb, List, length, None, sym, ◌∙◌, subst, arith}
use lib.ListN.{length-map}
use Rattle.std.proofs.lemmas.Bool.{eq-eqb, eqb-true, and_parts}
use Rattle.polar.specs.declared.refusal.Refusal.TheVariants.{Data}
use Rattle.polar.specs.Words.{trues}
use Rattle.polar.specs.Bytes.{byte, all_bits, bytes}
use Rattle.polar.specs.Codewords.{codeword}
use Rattle.polar.specs.Plans.{encode_due}
use Rattle.polar.proofs.Dues.{unless_none, unless_passes}
use Rattle.polar.proofs.Sums.{trues_bound}
use Rattle.polar.proofs.Codes.{length_codeword}
use Rattle.captures.specs.Captures.{Captured}
use Rattle.captures.specs.Calls.{word_due}
use Rattle.analyser.proofs.Rows.{all_bits_bytes}
use Rattle.reports.specs.Pages.{tell_due}

-- no question about a codeword is refused
pub no_refusal : (top : ℕ) (ms : List Bool) (word : List ℕ) (ds : List Bool) → 1 ≤ length ms → word ≡ bytes (codeword ms ds) → word_due top ms word ≡ None
no_refusal top ms word ds some is =
    let w = codeword ms ds in
    subst (λ x. word_due top ms x ≡ None) (sym is) (rw (eq-eqb (length (bytes w)) (length ms) (length-map w byte ∙ length_codeword ms ds some), all_bits_bytes w))

-- data that are encoded can be told
pub tells : (c : Captured) (ds : List ℕ) (room : ℕ) → encode_due c.marks_row ds room ≡ None → tell_due c ds ≡ None
tells c ds room due =
    let test = eqb (length ds) (trues c.marks_row) && all_bits ds in
    unless_passes test Data None (unless_none test Data _ due).0

-- data that can be told are no more than the symbols
pub told_few : (c : Captured) (ds : List ℕ) → length c.marks_row ≤ 4096 → tell_due c ds ≡ None → length ds ≤ 4096
told_few c ds short due =
    let ms = c.marks_row in
    let many = eqb-true (length ds) (trues ms) (and_parts (eqb (length ds) (trues ms)) (all_bits ds) (unless_none (eqb (length ds) (trues ms) && all_bits ds) Data None due).0).0 in
    omega (arith, many, trues_bound ms)
