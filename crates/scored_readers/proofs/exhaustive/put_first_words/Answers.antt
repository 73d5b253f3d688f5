use Rattle.std.proofs.Common.{ap, sym, ◌∙◌}
use Rattle.polar.proofs.Sums.{zeros}
use Rattle.scored_readers.specs.Numbers.{zero_word}
use Rattle.scored_readers.proofs.exhaustive.put_first_words.Goals as goal

pub returns : goal.returns
returns c =
    let marks = c.args.marks.now in
    let first = c.fill.ensures.after (λ y same. same) ∙ ap zeros c.split_at_mut-front.ensures.front_len ∙ sym (zero_word marks c.requires.0) in
    let second = c.put_word.ensures in
    cc
