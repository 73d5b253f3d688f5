use Rattle.std.proofs.Common.{◌≡◌, ℕ, ◌+◌, ◌-◌, Bool, List, ◌++◌, length, take, sym, ap, ◌∙◌, arith, w32, to_z, of_z}
use borrow.Author.Differences.{ints}
use Rattle.std.proofs.lemmas.Int.{to_z-of_z}
use Rattle.readers.specs.Rows.{take_front}
use Rattle.scored_readers.specs.ExhaustiveReading.{data_word, word_score}
use Rattle.scored_readers.specs.Numbers.{length_data_word, length_rows}
use Rattle.scored_readers.specs.Largest.{better, no_better}
use Rattle.scored_readers.proofs.exhaustive.try_words.Goals as goal
use Rattle.scored_readers.proofs.exhaustive.try_words.Goals.{then-top-score, else-top-score}

-- the label that stands in front of two rows
in_front : (marks rows : List Bool) (n : ℕ) → rows ≡ data_word marks n ++ data_word marks 1 → take (length marks - 0) rows ≡ data_word marks n
in_front marks rows n is = ap (take (length marks - 0)) is ∙ take_front (length marks) (data_word marks n) (data_word marks 1) (length_data_word marks n)

pub loop-number-init : goal.loop-number-init
loop-number-init g c =
    let marks = c.args.question.now.marks.now in
    let result = c.score_word-top.result in
    let back : to_z w32 (of_z w32 result) ≡ result = to_z-of_z w32 result (record { sfits = c.score_word-top.type_inv }) in
    let first = c.copy_from_slice.ensures.after ∙ in_front marks _ 0 c.put_first_words.ensures in
    (c.put_first_words.ensures, (first, back ∙ c.score_word-top.ensures ∙ ap (word_score g.K.Scored.scoring c.args.question.now.turns c.args.question.now.values.now) first))

pub slice_bounds-word-end : goal.slice_bounds-word-end
slice_bounds-word-end g c = omega (arith, length_rows c.args.question.now.marks.now c.put_next_word.new.rows (c.loop-number.number + 1) 1 c.put_next_word.ensures)

pub loop-number-preserved : goal.loop-number-preserved
loop-number-preserved g c =
    let marks = c.args.question.now.marks.now in
    let word = data_word marks in
    let score = λ (w : List Bool). word_score g.K.Scored.scoring c.args.question.now.turns c.args.question.now.values.now w in
    let n = c.loop-number.number in
    let inv = c.loop-number.invariant in
    let made = c.put_next_word.ensures in
    let next = in_front marks _ (n + 1) made in
    let result = c.score_word-score.result in
    let back : to_z w32 (of_z w32 result) ≡ result = to_z-of_z w32 result (record { sfits = c.score_word-score.type_inv }) in
    let scored = back ∙ c.score_word-score.ensures in (
      made,
      elim c.if-top-score.branch [
        | then-top-score w ↦
            let copied = w.out-is ∙ w.copy_from_slice-then-top-score.ensures.after in
            better word score n _ _ _ next scored inv.1.1 (grind (arith, ints, w.if-top-score.true)) _ _ copied w.top-is
        | else-top-score w ↦ no_better word score n _ _ _ next scored inv.1.1 w.if-top-score.false _ _ _ inv.1.0 w.out-is w.top-is
      ],
    )

pub shape_of-rows : goal.shape_of-rows
shape_of-rows g c = length_rows c.args.question.now.marks.now c.loop-number.rows c.loop-number.number 1 c.loop-number.invariant.0 ∙ sym c.requires.room.0
