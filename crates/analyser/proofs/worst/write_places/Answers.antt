use Rattle.std.proofs.Common.{ℕ, eqb, refl, ◌∙◌, arith, rules}
use borrow.Author.Tests.{tests}
use Rattle.std.proofs.lemmas.Iterator.{YieldsList-from_slice, YieldsList-from_map}
use Rattle.std.proofs.lemmas.Iterator.Consumers.{YieldsList-at, YieldsList-from_enumerate, YieldsList-from_filter}
use Rattle.analyser.proofs.Fronts.{front_room, front_items}
use Rattle.analyser.proofs.Places.{places_found, how_many}
use Rattle.analyser.proofs.worst.write_places.Goals as goal

pub write_front-requires-clause-room : goal.write_front-requires-clause-room
write_front-requires-clause-room c =
    front_room _
    (YieldsList-from_map _ (λ (p : ℕ × ℕ). p.0)
    (YieldsList-at c.map.ensures.source
    (YieldsList-from_filter _ (λ (p : ℕ × ℕ). eqb p.1 1)
    (YieldsList-at c.filter-ones.ensures.source (YieldsList-from_enumerate (YieldsList-at c.enumerate.ensures.source (YieldsList-from_slice c.args.word.now (cc))) c.enumerate.ensures.count))
    c.filter-ones.ensures.closure (λ x b q k. search (rules, tests))))
    c.map.ensures.closure (λ x r q k. search (rules, tests)))
    (omega (arith, c.requires, how_many c.args.word.now))

pub returns : goal.returns
returns c =
    let word = c.args.word.now in
    front_items c.write_front.result c.args.places.now c.write_front.new.out
    (YieldsList-from_map _ (λ (p : ℕ × ℕ). p.0)
    (YieldsList-at c.map.ensures.source
    (YieldsList-from_filter _ (λ (p : ℕ × ℕ). eqb p.1 1)
    (YieldsList-at c.filter-ones.ensures.source (YieldsList-from_enumerate (YieldsList-at c.enumerate.ensures.source (YieldsList-from_slice word (cc))) c.enumerate.ensures.count))
    c.filter-ones.ensures.closure (λ x b q k. search (rules, tests))))
    c.map.ensures.closure (λ x r q k. search (rules, tests)))
    c.write_front.ensures.runs
    ∙ rw (how_many word, places_found word) refl
