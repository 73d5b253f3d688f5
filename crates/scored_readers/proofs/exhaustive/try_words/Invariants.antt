use Rattle.std.proofs.Common.{◌≡◌, ℕ, ◌++◌}
use Rattle.scored_readers.specs.ExhaustiveReading.{data_word, word_score, best}
use Rattle.scored_readers.proofs.exhaustive.try_words.Given as goal

-- the label of the last number in front, the best label so far, and its score
abbrev pub invariant-loop-number : goal.invariant-loop-number
invariant-loop-number g l =
    let f = λ (n : ℕ). word_score g.K.Scored.scoring l.question.turns l.question.values.now (data_word l.marks n) in
    (l.rows ≡ data_word l.marks l.number ++ data_word l.marks 1) × ((l.out ≡ data_word l.marks (best f l.number)) × (l.top ≡ f (best f l.number)))
