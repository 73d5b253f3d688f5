use Rattle.std.proofs.Common.{◌≡◌, ℕ, Bool, true, ◌&&◌, nat_lt, List, [], ◌∷◌, sym, ◌∙◌, rules, tests}
use mathlib.Core.Bool.{and_assoc, and-true}
use Rattle.std.specs.List.{fold}
use Rattle.std.proofs.lemmas.Iterator.{YieldsList-from_slice}
use Rattle.std.proofs.lemmas.Iterator.Consumers.{fold_from_yields_List}
use Rattle.polar.specs.Bytes.{all_bits}
use Rattle.polar.proofs.bits.are_bits.Goals as goal

fold_all : (all : Bool) (bs : List ℕ) → fold (λ a b. a && nat_lt b 2) all bs ≡ all && all_bits bs
fold_all all [] = sym (and-true all)
fold_all all (b ∷ bs) = fold_all (all && nat_lt b 2) bs ∙ and_assoc all (nat_lt b 2) (all_bits bs)

pub returns : goal.returns
returns c =
    fold_from_yields_List _ (λ a b. a && nat_lt b 2) true _ c.fold.ensures.ran (YieldsList-from_slice c.args.src.now cc) (λ a x b q k. search (rules, tests))
    ∙ fold_all true c.args.src.now
