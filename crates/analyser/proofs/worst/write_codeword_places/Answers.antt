use Rattle.std.proofs.Common.{◌≡◌, ◌-◌, ◌++◌, take, drop, replicate, ap, ◌∙◌, subst}
use Rattle.polar.specs.Words.{trues}
use Rattle.polar.specs.Bytes.{bits}
use Rattle.polar.specs.Codewords.{codeword}
use Rattle.polar.specs.Plans.{marks_of, Encoded}
use Rattle.polar.proofs.PlanFacts.{sized}
use Rattle.analyser.specs.Worst.{places_of}
use Rattle.analyser.proofs.Rows.{encoded_front}
use Rattle.analyser.proofs.worst.write_codeword_places.Goals as goal
use Rattle.analyser.proofs.worst.write_codeword_places.Goals.{After-length}

word_is : (c : After-length) → bits (take (c.length.result - 0) c.encode.new.out) ≡ codeword (marks_of c.args.plan.now) (bits c.args.«data».now)
word_is c =
    let done = subst (λ r. Encoded (marks_of c.args.plan.now) c.args.«data».now (replicate 4096 0) r c.encode.new.out) c.unwrap.ensures c.encode.ensures.value in
    encoded_front (marks_of c.args.plan.now) c.args.«data».now (replicate 4096 0) c.encode.new.out c.unwrap.result c.length.result (sized c.args.plan.now).0 c.length.ensures done

pub write_places-requires : goal.write_places-requires
write_places-requires c =
    let at = (goal.at.write_places-requires c).After-length in
    rw (word_is at) c.requires.room

pub returns : goal.returns
returns c =
    let at = (goal.at.returns c).After-length in
    c.write_places.ensures ∙ ap (λ w. places_of w ++ drop (trues w) c.args.places.now) (word_is at)
