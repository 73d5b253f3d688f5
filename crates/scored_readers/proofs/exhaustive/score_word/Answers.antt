use Rattle.std.proofs.Common.{◌≡◌, ℕ, zero, suc, ◌+◌, ◌*◌, ◌<◌, ◌≤◌, Bool, T, ℤ, pos, ◌+ℤ◌, nat_abs, fold, List, [], ◌∷◌, length, map, get_or, Option, sym, ap, ◌∙◌, subst, add-mul, one-mul, add-one, arith, rules, w32, map-id}
use borrow.Author.Differences.{ints}
use Rattle.std.proofs.lemmas.Int.{to_z-of_z}
use Rattle.std.specs.List.{zip, AllByRecursion}
use Rattle.std.specs.Iterator.{Yields, AlwaysYields}
use Rattle.std.specs.Iterator.Runs.{YieldsRun}
use Rattle.std.proofs.lemmas.Iterator.{YieldsList, YieldsList-from_slice, YieldsList-from_zip, YieldsList-from_map, items_from_drains}
use Rattle.std.proofs.lemmas.Iterator.Adapters.{serves_from_places}
use Rattle.soft.specs.Kind.{Kind, Score, AllFair, limit}
use Rattle.readers.specs.Readings.{AllFit}
use Rattle.readers.specs.Node.{posed_turns}
use Rattle.scored_readers.specs.ExhaustiveReading.{word_score}
use Rattle.scored_readers.specs.Scores.{score_room}
use Rattle.scored_readers.proofs.exhaustive.score_word.Goals as goal

limit_more : (i most : ℕ) → suc i * most ≡ i * most + most
limit_more i most = ap (λ l. l * most) (sym (add-one i)) ∙ add-mul i 1 most ∙ ap (λ n. i * most + n) (one-mul most)

abbrev Small : ℕ → List ℤ → Type 0
Small most = AllByRecursion (λ z. nat_abs z ≤ most)

-- no sum of the first items passes the bound
bounded : {S : Type 0} (steps : S → Option ℤ → S → Type 0) (most : ℕ) (items all : List ℤ) (s t : S) (a : ℤ) → AlwaysYields steps (λ x. x) s all → Yields steps s items t
    → Small most all → nat_abs (fold ◌+ℤ◌ a items) ≤ nat_abs a + length all * most
bounded steps most [] all s t a g y h = omega arith
bounded steps most (x ∷ items) [] s t a g y h = absurd (g x y.0 y.1)
bounded steps most (x ∷ items) (z ∷ all) s t a g y h =
    let m = g.1 x y.0 y.1 in
    let small : nat_abs x ≤ most = subst (λ k. nat_abs k ≤ most) (sym m.0) h.0 in
    let later = bounded steps most items all y.0 t (a +ℤ x) m.1 y.2 h.1 in
    omega (arith, ints, later, small, limit_more (length all) most)

bounded_road : {S : Type 0} (steps : S → Option ℤ → S → Type 0) (most : ℕ) (items all : List ℤ) (u s t : S) (a : ℤ) → Yields steps u items t → u ≡ s → YieldsList steps (λ x. x) s all
    → Small most all → nat_abs (fold ◌+ℤ◌ a items) ≤ nat_abs a + length all * most
bounded_road steps most items all u s t a y from road h = bounded steps most items all s t a road.runs (subst (λ k. Yields steps k items t) from y) h

module _ {K : Type 0} (kind : Kind K) (score : Score K) (turns : ℕ) where
  abbrev at : K × Bool → ℤ
  at p = score p.0 p.1 turns

  few_items : (values : List K) (word : List Bool) → length (map at (zip values word)) ≤ length values
  few_items [] word = omega arith
  few_items (v ∷ values) [] = omega arith
  few_items (v ∷ values) (b ∷ word) = omega (arith, few_items values word)

  small_items : AllFair kind score → turns ≤ 12 → (values : List K) (word : List Bool) → AllFit kind turns values → Small (limit kind turns) (map at (zip values word))
  small_items fair few [] word fits = tt
  small_items fair few (v ∷ values) [] fits = tt
  small_items fair few (v ∷ values) (b ∷ word) fits = (omega (arith, ints, (fair v b turns few fits.0).within), small_items fair few values word fits.1)

  summed : (values : List K) (word : List Bool) (a : ℤ) → fold ◌+ℤ◌ a (map at (zip values word)) ≡ a +ℤ word_score score turns values word
  summed [] word a = omega (arith, ints)
  summed (v ∷ values) [] a = omega (arith, ints)
  summed (v ∷ values) (b ∷ word) a = omega (arith, ints, summed values word (a +ℤ score v b turns))

  item_fits : (values : List K) (word : List Bool) (i : ℕ) (p : K × Bool) → i < length (zip values word) → p ≡ get_or (zip values word) i p → AllFit kind turns values → T (kind.fitting p.0 turns)
  item_fits [] word i p less is fits = absurd (omega arith)
  item_fits (v ∷ values) [] i p less is fits = absurd (omega arith)
  item_fits (v ∷ values) (b ∷ word) zero p less is fits = subst (λ q. T (kind.fitting q.0 turns)) (sym is) fits.0
  item_fits (v ∷ values) (b ∷ word) (suc i) p less is fits = item_fits values word i p (omega (arith, less)) is fits.1

pub sum-requires-clause-can : goal.sum-requires-clause-can
sum-requires-clause-can g c =
    let posed = c.args.question.now.posed in
    let turns = c.args.question.now.turns in
    let few = posed_turns posed in
    let road = YieldsList-from_zip {s = c.map.result.iter} (YieldsList-from_slice c.args.question.now.values.now (cc)) (YieldsList-from_slice c.args.word.now (cc)) in (
      (tt, tt),
      serves_from_places road (λ x q k. search rules) (λ x i less is.
          let fit : T (g.K.Soft.kind.fitting x.0.now turns) = item_fits g.K.Soft.kind g.K.Scored.scoring turns c.args.question.now.values.now c.args.word.now i _ less is posed.fits in
          search rules),
    )

pub sum-requires-clause-fits : goal.sum-requires-clause-fits
unfolding YieldsRun
sum-requires-clause-fits g c =
    let kind = g.K.Soft.kind in
    let score = g.K.Scored.scoring in
    let turns = c.args.question.now.turns in
    let values = c.args.question.now.values.now in
    let word = c.args.word.now in
    let posed = c.args.question.now.posed in
    let all = map (at kind score turns) (zip values word) in
    let items = few_items kind score turns values word in
    let room = score_room kind.unit (length c.args.question.now.marks.now) turns (length all) g.met.K.Soft.rules.unit_most posed.short (omega (arith, posed.same, items)) in
    (λ p whole from.
    let most = bounded_road _ (limit kind turns) p.items all _ _ p.gave.0.0 (pos 0) p.gave.0.1 from (YieldsList-from_map {s = c.map.result} _ (at kind score turns) (YieldsList-from_zip {s = c.map.result.iter} (YieldsList-from_slice values (cc)) (YieldsList-from_slice word (cc))) c.map.ensures.closure (λ x r q k. search rules)) (small_items kind score turns g.met.K.Scored.fair (posed_turns posed) values word posed.fits) in
    omega (arith, ints, most, room))

pub returns : goal.returns
returns g c =
    let score = g.K.Scored.scoring in
    let turns = c.args.question.now.turns in
    let values = c.args.question.now.values.now in
    let word = c.args.word.now in
    let h = at g.K.Soft.kind score turns in
    let ran = c.sum.ensures.ran in
    let listed : ran.0 ≡ map h (zip values word) = sym (map-id ran.0) ∙ items_from_drains ran.0 (let d = ran.1 tt in (d.1.0, d.1.1, λ _. (d.0, d.1.2))) (YieldsList-from_map {s = c.map.result} _ h (YieldsList-from_zip {s = c.map.result.iter} (YieldsList-from_slice values (cc)) (YieldsList-from_slice word (cc))) c.map.ensures.closure (λ x r q k. search rules)) in
    let total : c.sum.result ≡ word_score score turns values word = ran.2 ∙ ap (fold ◌+ℤ◌ (pos 0)) listed ∙ summed g.K.Soft.kind score turns values word (pos 0) ∙ omega (arith, ints) in
    to_z-of_z w32 c.sum.result (record { sfits = c.sum.type_inv }) ∙ total
