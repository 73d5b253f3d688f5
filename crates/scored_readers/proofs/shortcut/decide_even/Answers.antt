use Rattle.std.proofs.Common.{◌≡◌, ℕ, ◌%◌, Bool, true, false, not, List, map, get_or, set, sym, ap, ◌∙◌}
use Rattle.std.proofs.lemmas.Bool.{cond-true, cond-false, eq-eqb, ne_eqb}
use Rattle.polar.specs.Words.{trues, parity}
use Rattle.scored_readers.specs.Decisions.{parity_count}
use Rattle.scored_readers.proofs.shortcut.decide_even.Goals as goal

-- the sum of a word, by the remainder of its count
odd_sum : (word : List Bool) (n : ℕ) → n ≡ trues word → n % 2 ≡ 1 → parity word ≡ true
odd_sum word n is odd = parity_count word ∙ eq-eqb (trues word % 2) 1 (ap (λ k. k % 2) (sym is) ∙ odd)

even_sum : (word : List Bool) (n : ℕ) → n ≡ trues word → (n % 2 ≡ 1 → ⊥) → parity word ≡ false
even_sum word n is even = parity_count word ∙ ne_eqb (trues word % 2) 1 (λ odd. even (ap (λ k. k % 2) is ∙ odd))

pub returns-then-count_ones-eq1 : goal.returns-then-count_ones-eq1
returns-then-count_ones-eq1 g c =
    let guess = map g.K.Soft.kind.decided c.args.question.now.values.now in
    let place = c.find_weakest-place.result in
    let decided = c.decide_all.ensures in
    let odd = odd_sum guess _ (c.count_ones.ensures ∙ ap trues decided) c.if-count_ones-eq1.true in
    let weak = c.find_weakest-place.ensures.value in
    let turned = cond-true (parity guess) (set guess place (not (get_or guess place false))) guess odd in
    cc

pub returns-else-count_ones-eq1 : goal.returns-else-count_ones-eq1
returns-else-count_ones-eq1 g c =
    let guess = map g.K.Soft.kind.decided c.args.question.now.values.now in
    let decided = c.decide_all.ensures in
    decided ∙ sym (cond-false (parity guess) _ guess (even_sum guess _ (c.count_ones.ensures ∙ ap trues decided) c.if-count_ones-eq1.false))
