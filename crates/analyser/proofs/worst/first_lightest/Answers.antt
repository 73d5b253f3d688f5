use Rattle.std.proofs.Common.{ℕ, false, ◌&&◌, eqb, length, get_or, Some, None, Option, refl, subst, arith, rules}
use borrow.Author.Tests.{tests}
use Rattle.std.specs.Option.{IsSome, IsSomeAnd}
use Rattle.std.proofs.lemmas.Iterator.{YieldsList-from_range}
use Rattle.std.proofs.lemmas.Iterator.Search.{find_from_yields_List}
use Rattle.analyser.specs.Worst.{leaf_weight, FirstLightest}
use Rattle.analyser.proofs.Turns.{first_found}
use Rattle.analyser.proofs.worst.first_lightest.Goals as goal
use Rattle.analyser.proofs.worst.first_lightest.Goals.{After-find}

found : (c : After-find) → IsSomeAnd c.find.result (FirstLightest c.args.marks.now)
found c =
    let ms = c.args.marks.now in
    first_found ms c.args.weight c.requires.value c.requires.least c.find.result
    (find_from_yields_List (λ j. get_or ms j false && eqb (leaf_weight ms j) c.args.weight) c.find.new.self _ c.find.result c.find.ensures.ran (YieldsList-from_range 0 (length ms) (length ms) refl (omega arith)) (λ x b q k. search (rules, tests)))

some : (o : Option ℕ) (P : ℕ → Type 0) → IsSomeAnd o P → IsSome o
some None P h = absurd h
some (Some x) P h = search rules

pub unwrap-requires : goal.unwrap-requires
unwrap-requires c = some c.find.result _ (found c)

pub returns : goal.returns
returns c = subst (λ o. IsSomeAnd o (FirstLightest c.args.marks.now)) c.unwrap.ensures (found (goal.at.returns c).After-find)
