use Rattle.std.proofs.Common.{◌≡◌, ℕ, zero, suc, ◌+◌, ◌-◌, ◌<◌, T, ℤ, List, [], ◌∷◌, length, map, get_or, drop, slice_index, int_lt, cond, pos, neg_ℤ, Some, Option, Bor, MatchOption, sym, refl, ap, ◌∙◌, subst, map-id, arith, rules, nat_cmp}
use denote.Param.Members.{Mut}
use borrow.Author.Differences.{ints}
use Rattle.std.proofs.lemmas.Bool.{cond-true, cond-false}
use Rattle.std.proofs.lemmas.Cmp.{ranked}
use Rattle.std.proofs.lemmas.Iterator.{YieldsList-from_range, items_from_drains}
use Rattle.std.specs.List.{FoldsTo, range_with_len}
use Rattle.std.specs.Ordering.{min_by_ordering}
use Rattle.std.specs.Iterator.{KeyTurn, CallableInMinByKey, PicksMinByKey, Yields, Drains}
use Rattle.std.specs.Fn.{CalledAt, TakesAt}
use Rattle.std.specs.declared.cmp.Ordering.{Ordering}
use Rattle.std.specs.declared.cmp.Ordering.TheVariants.{Less, Equal, Greater}
use Rattle.std.specs.declared.ops.Range.{Range}
use Rattle.std.proofs.lemmas.List.{get_or-map}
use Rattle.readers.specs.Rows.{all_read}
use Rattle.readers.specs.Node.{posed_turns}
use Rattle.scored_readers.specs.ExhaustiveReading.{best}
use Rattle.scored_readers.specs.ShortcutReading.{score_width}
use Rattle.scored_readers.proofs.shortcut.find_weakest.Goals as goal

-- the one of two that is kept, by their widths: the second only if it lies closer
kept_is : {A : Type 0} (a b : ℕ) (o : Ordering) → nat_cmp a b ≡ o → (x y : A) → min_by_ordering o x y ≡ cond (int_lt (neg_ℤ (pos a)) (neg_ℤ (pos b))) y x
kept_is a b Less e x y = let less = ranked a b Less (sym e) in sym (cond-false (int_lt (neg_ℤ (pos a)) (neg_ℤ (pos b))) y x (grind (arith, ints)))
kept_is a b Equal e x y = let same = ranked a b Equal (sym e) in sym (cond-false (int_lt (neg_ℤ (pos a)) (neg_ℤ (pos b))) y x (grind (arith, ints)))
kept_is a b Greater e x y = let more = ranked a b Greater (sym e) in sym (cond-true (int_lt (neg_ℤ (pos a)) (neg_ℤ (pos b))) y x (grind (arith, ints)))

kept_key : (w : ℕ → ℕ) (o : Ordering) (x y : ℕ) → min_by_ordering o (w x) (w y) ≡ w (min_by_ordering o x y)
kept_key w Less x y = refl
kept_key w Equal x y = refl
kept_key w Greater x y = refl

-- the steps of a range of places, and the list that they give
abbrev steps : Range ℕ → Option ℕ → Range ℕ → Type 0
steps s r t = (t.end ≡ s.end) × MatchOption r ((s.end - s.start ≡ 0) × (t.start ≡ s.start)) (λ x. (0 < s.end - s.start) × (x ≡ s.start) × (t.start ≡ s.start + 1))

places : (n : ℕ) (xs : List ℕ) → Drains steps (record { start = 0; end = n }) xs → xs ≡ range_with_len 0 n
places n xs d = sym (map-id xs) ∙ items_from_drains xs (d.1.0, d.1.1, λ _. (d.0, d.1.2)) (YieldsList-from_range 0 n n refl (omega arith))

-- the calls that `min_by_key` makes of a closure that they leave as it was
module _ {F : Type 0} (g : Mut F (Bor ℕ × Unit {0}) ℕ) (f : F) (still : (x k : ℕ) (q : F) → CalledAt g f x k q → q ≡ f) where
  abbrev Turn : (F × ℕ) × ℕ → ℕ → (F × ℕ) × ℕ → Type 0
  Turn = KeyTurn min_by_ordering min_by_ordering g nat_cmp

  unmoved : (xs : List ℕ) (p q : (F × ℕ) × ℕ) → p.0.0 ≡ f → FoldsTo Turn p xs q → q.0.0 ≡ f
  unmoved [] p q is same = ap (λ z. z.0.0) (sym same) ∙ is
  unmoved (x ∷ xs) p q is c = unmoved xs c.0 q (still x c.1.0 c.0.0.0 (subst (λ h. CalledAt g h x c.1.0 c.0.0.0) is c.1.2)) c.2

  -- where its key of a place is the width there, the first of the places of least width is kept
  module _ (n : ℕ) (w : ℕ → ℕ) (keyed : (x k : ℕ) (q : F) → x < n → CalledAt g f x k q → k ≡ w x) where
    abbrev close : ℕ → ℤ
    close i = neg_ℤ (pos (w i))

    turns_keep : (m i a : ℕ) → a ≡ suc i → i + m < n → (p q : (F × ℕ) × ℕ) → p.0.0 ≡ f → p.0.1 ≡ w p.1 → p.1 ≡ best close i
        → FoldsTo Turn p (range_with_len a m) q → q.1 ≡ best close (i + m)
    turns_keep zero i a next short p q is key kept same = ap (λ z. z.1) (sym same) ∙ kept ∙ ap (best close) (omega arith)
    turns_keep (suc m) i a next short p q is key kept c =
        let j = c.0 in
        let k = c.1.0 in
        let o = c.1.1 in
        let call = subst (λ h. CalledAt g h a k j.0.0) is c.1.2 in
        let key_is : k ≡ w a = keyed a k j.0.0 (omega (arith, next)) call in
        let key' : j.0.1 ≡ w j.1 = c.1.4 ∙ ap (λ z. min_by_ordering o z k) key ∙ ap (min_by_ordering o (w p.1)) key_is ∙ kept_key w o p.1 a ∙ ap w (sym c.1.5) in
        let now : j.1 ≡ cond (int_lt (close p.1) (close a)) a p.1 =
        c.1.5 ∙ kept_is p.0.1 k o c.1.3 p.1 a ∙ ap (λ z. cond (int_lt (neg_ℤ (pos z)) (neg_ℤ (pos k))) a p.1) key ∙ ap (λ z. cond (int_lt (close p.1) (neg_ℤ (pos z))) a p.1) key_is in
        let kept' : j.1 ≡ best close (suc i) = now ∙ ap (λ z. cond (int_lt (close p.1) (close z)) z p.1) next ∙ ap (λ z. cond (int_lt (close z) (close (suc i))) (suc i) z) kept in
        turns_keep m (suc i) (a + 1) (omega (arith, next)) (omega (arith, short)) j q (still a k j.0.0 call) key' kept' c.2 ∙ ap (best close) (omega arith)

  -- it may be called at each place of a range where it may be called at first
  within : (xs : List ℕ) (s t : Range ℕ) → Yields steps s xs t → t.end ≡ s.end
  within [] s t y = sym (ap (λ k. k.end) y)
  within (x ∷ xs) s t y = within xs y.0 t y.2 ∙ y.1.0

  callable : (s : Range ℕ) → ((x : ℕ) → x < s.end → TakesAt g f x) → CallableInMinByKey steps g nat_cmp s f
  callable s takes x t step = (
    takes x (omega (arith, step.1.0, step.1.1)),
    λ k f' called. record {
      at = λ xs t' q z u yields folds more.
          subst (λ h. TakesAt g h z) (sym (unmoved xs ((f', k), x) q (still x k f' called) folds)) (takes z (omega (arith, within xs t t' yields, step.0, more.1.0, more.1.1)));
    },
  )

  picks : (n : ℕ) (w : ℕ → ℕ) → ((x k : ℕ) (q : F) → x < n → CalledAt g f x k q → k ≡ w x) → (y : ℕ)
      → PicksMinByKey steps g nat_cmp (record { start = 0; end = n }) f (Some y) → y ≡ best (λ i. neg_ℤ (pos (w i))) (n - 1)
  picks zero w keyed y (x, xs, k, f', q, drains, called, folds) = absurd (omega (arith, ap length (places zero (x ∷ xs) drains)))
  picks (suc n) w keyed y (x, xs, k, f', q, drains, called, folds) =
      let all = places (suc n) (x ∷ xs) drains in
      let first : x ≡ 0 = ap (λ l. get_or l 0 x) all in
      let others : xs ≡ range_with_len 1 n = ap (drop 1) all in
      let key : k ≡ w x = keyed x k f' (omega (arith, first)) called in
      turns_keep (suc n) w keyed n 0 1 refl (omega arith) ((f', k), x) (q, y) (still x k f' called) key first
      (subst (λ l. FoldsTo Turn ((f', k), x) l (q, y)) others folds)
      ∙ ap (best (λ i. neg_ℤ (pos (w i)))) (omega arith)

pub min_by_key-requires-clause-callable : goal.min_by_key-requires-clause-callable
min_by_key-requires-clause-callable g c =
    let posed = c.args.question.now.posed in
    let fits = λ (v : g.row.K.Denot). T (g.K.Soft.kind.fitting v c.args.question.now.turns) in
    callable _ _ (λ x k q called. search rules) _ (λ x less y shows.
    let shown : y.now < length c.args.question.now.values.now = omega (arith, shows, less) in
    (λ a b d e h i j. omega (arith, shown), λ a b d e h i j. shown, λ a b d e h i j given k l m. (posed_turns posed, all_read fits c.args.question.now.values.now y.now given.0 shown given.1 posed.fits)))

pub returns-clause-value : goal.returns-clause-value
returns-clause-value g c =
    let values = c.args.question.now.values.now in
    let w = λ (i : ℕ). slice_index (map (score_width g.K.Scored.scoring c.args.question.now.turns) values) i in
    let is = picks _ _ (λ x k q called. search rules) (length values) w (λ x k q less called.
    let score = score_width g.K.Scored.scoring c.args.question.now.turns in
    let at = λ (v : g.row.K.Denot) (read : v ≡ get_or values called.shown.now v). ap (slice_index (map score values)) (sym called.shows) ∙ get_or-map score values called.shown.now v 0 (omega (arith, less, called.shows)) ∙ ap score (sym read) in
    search rules) _ (subst (PicksMinByKey steps _ nat_cmp _ _) c.unwrap.ensures c.min_by_key.ensures.ran) in
    search (rules, is)
