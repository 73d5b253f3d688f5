use Rattle.std.proofs.Common.{◌+◌, ◌++◌, length, drop, sym, ap, ◌∙◌, arith, drop_at}
use Rattle.polar.specs.Words.{xor, plus}
use Rattle.polar.proofs.Merges.{merge_past}
use Rattle.scored_readers.specs.ExhaustiveReading.{data_word}
use Rattle.scored_readers.specs.Numbers.{length_data_word, length_rows, odd_word}
use Rattle.scored_readers.proofs.exhaustive.put_next_word.Goals as goal

pub split_at_mut-front-requires : goal.split_at_mut-front-requires
split_at_mut-front-requires c = omega (arith, length_rows c.args.marks.now c.args.rows.now c.args.number 1 c.requires.last)

pub returns-then-number-eq0 : goal.returns-then-number-eq0
returns-then-number-eq0 c =
    let marks = c.args.marks.now in
    let n = length marks in
    let w = data_word marks c.args.number in
    let r = data_word marks 1 in
    let long = length_data_word marks c.args.number in
    c.add_right.ensures ∙ ap (λ z. plus z (drop n z)) c.requires.last ∙ ap (plus (w ++ r)) (drop_at w r n long)
    ∙ merge_past xor w r r (omega (arith, length_data_word marks 1)) ∙ ap (λ z. z ++ r) (sym (odd_word marks c.requires.some c.args.number c.if-number-eq0.true))

pub returns-else-number-eq0 : goal.returns-else-number-eq0
returns-else-number-eq0 c =
    let marks = c.args.marks.now in
    let n = length marks in
    let w = data_word marks (c.args.number + 1) in
    let behind = c.split_at_mut-front.ensures.back ∙ ap (drop n) c.requires.last ∙ drop_at (data_word marks c.args.number) (data_word marks 1) n (length_data_word marks c.args.number) in
    ap (λ z. z ++ c.split_at_mut-front.result.1.now) c.put_word.ensures ∙ ap (λ z. w ++ z) behind
