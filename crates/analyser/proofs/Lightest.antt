-- The data word of one leaf: its codeword weighs what the leaf does. Assumes nothing.
use Rattle.std.proofs.Common.{◌≡◌, ℕ, zero, suc, ◌<◌, ◌≤◌, Bool, true, false, List, [], ◌∷◌, length, get_or, take, sym, refl, ap, ◌∙◌, arith, length-set}
use lib.ListN.{length-replicate}
use Rattle.polar.specs.Words.{trues}
use Rattle.polar.specs.Labels.{label}
use Rattle.polar.specs.Marks.{spread, collect, single}
use Rattle.polar.specs.Codewords.{tree_of, codeword}
use Rattle.polar.proofs.Shapes.{leaves_balanced, left_heavy_balanced}
use Rattle.polar.proofs.Sums.{zeros}
use Rattle.polar.proofs.Label.{label_zeros}
use Rattle.polar.proofs.Active.{length_collect}
use Rattle.polar.proofs.Distance.{single_weight}
use Rattle.analyser.specs.Worst.{plan_weight, leaf_weight, FirstLightest, leaf_word}

collect_zeros : (ms : List Bool) → collect ms (zeros (length ms)) ≡ zeros (trues ms)
collect_zeros [] = refl
collect_zeros (true ∷ ms) = ap (λ z. false ∷ z) (collect_zeros ms)
collect_zeros (false ∷ ms) = collect_zeros ms

spread_zeros : (ms : List Bool) (n : ℕ) → spread ms (zeros n) ≡ zeros (length ms)
spread_zeros [] n = refl
spread_zeros (false ∷ ms) n = ap (λ z. false ∷ z) (spread_zeros ms n)
spread_zeros (true ∷ ms) zero = ap (λ z. false ∷ z) (spread_zeros ms zero)
spread_zeros (true ∷ ms) (suc n) = ap (λ z. false ∷ z) (spread_zeros ms n)

-- the datum of an active leaf is numbered by the active leaves before it
pub leaf_word_is : (ms : List Bool) (i : ℕ) → get_or ms i false ≡ true → leaf_word ms i ≡ single (trues ms) (trues (take i ms))
leaf_word_is [] i a = absurd (grind arith)
leaf_word_is (true ∷ ms) zero a = ap (λ z. true ∷ z) (collect_zeros ms)
leaf_word_is (false ∷ ms) zero a = absurd (grind arith)
leaf_word_is (true ∷ ms) (suc i) a = ap (λ z. false ∷ z) (leaf_word_is ms i a)
leaf_word_is (false ∷ ms) (suc i) a = leaf_word_is ms i a

spread_leaf : (ms : List Bool) (i : ℕ) → get_or ms i false ≡ true → spread ms (leaf_word ms i) ≡ single (length ms) i
spread_leaf [] i a = absurd (grind arith)
spread_leaf (true ∷ ms) zero a = ap (λ z. true ∷ z) (ap (spread ms) (collect_zeros ms) ∙ spread_zeros ms (trues ms))
spread_leaf (false ∷ ms) zero a = absurd (grind arith)
spread_leaf (true ∷ ms) (suc i) a = ap (λ z. false ∷ z) (spread_leaf ms i a)
spread_leaf (false ∷ ms) (suc i) a = ap (λ z. false ∷ z) (spread_leaf ms i a)

pub length_leaf_word : (ms : List Bool) (i : ℕ) → length (leaf_word ms i) ≡ trues ms
length_leaf_word ms i = length_collect ms (single (length ms) i) (length-set (zeros (length ms)) i true ∙ length-replicate (length ms) false)

-- the codeword of zeros
pub codeword_zeros : (ms : List Bool) (n : ℕ) → 1 ≤ length ms → codeword ms (zeros n) ≡ zeros (length ms)
codeword_zeros ms n some =
    let size = leaves_balanced (length ms) some in
    ap (label (tree_of ms)) (spread_zeros ms n ∙ ap zeros (sym size)) ∙ label_zeros (tree_of ms) ∙ ap zeros size

-- the codeword of an active leaf's word
leaf_weighs : (ms : List Bool) (i : ℕ) → i < length ms → get_or ms i false ≡ true → trues (codeword ms (leaf_word ms i)) ≡ leaf_weight ms i
leaf_weighs ms i within active =
    let some : 1 ≤ length ms = omega arith in
    let size = leaves_balanced (length ms) some in
    ap (λ bs. trues (label (tree_of ms) bs)) (spread_leaf ms i active ∙ ap (λ n. single n i) (sym size))
    ∙ single_weight (tree_of ms) i (left_heavy_balanced (length ms) some) (omega arith)

pub first_weighs : (ms : List Bool) (leaf : ℕ) → FirstLightest ms leaf → trues (codeword ms (leaf_word ms leaf)) ≡ plan_weight ms
first_weighs ms leaf light = leaf_weighs ms leaf light.within light.active ∙ light.lightest
