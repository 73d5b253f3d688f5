use Rattle.std.proofs.Common.{◌≡◌, ℕ, ◌∙◌, ℤ, vec_items, rules}
use borrow.Author.Tests.{tests}
use Rattle.std.specs.List.{position, zip}
use Rattle.std.proofs.lemmas.Iterator.{YieldsList-from_slice, YieldsList-from_zip}
use Rattle.std.proofs.lemmas.Iterator.Search.{position_from_yields_List}
use Rattle.polar.specs.Bytes.{bit}
use Rattle.captures.specs.Captures.{against}
use Rattle.captures.proofs.Contradictions.{first_is}
use Rattle.captures.proofs.capture.Capture.first_against.Goals as goal

pub returns : goal.returns
returns c =
    let counts = vec_items c.args.self.now.counts in
    let found : c.position.result ≡ position (λ (p : ℤ × ℕ). against p.0 (bit p.1)) (zip counts c.args.word.now) =
    position_from_yields_List (λ (p : ℤ × ℕ). against p.0 (bit p.1)) c.position.new.self _ c.position.result c.position.ensures.ran
    (YieldsList-from_zip {v = λ y. y.now} {w = λ y. y.now} (YieldsList-from_slice counts (cc)) (YieldsList-from_slice c.args.word.now (cc))) (λ x b q k. search (rules, tests)) in
    (c.in_ok-check_word.ensures.due.0, found ∙ first_is counts c.args.word.now)
