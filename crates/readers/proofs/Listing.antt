-- The loops over a list, and what reading one promises. Assumes nothing.
use Rattle.std.proofs.Common.{◌≡◌, ℕ, suc, fold, nat_lt, ◌+◌, ◌*◌, ◌<◌, ◌≤◌, Bool, true, false, cond, not, ◌&&◌, T, eqb, leb, List, [], ◌∷◌, ◌++◌, length, get_or, take, drop, IfOk, Some, None, Ok, Err, Option, Result, sym, refl, ap, ◌∙◌, subst, mul-one, arith}
use Rattle.std.specs.Option.{option_map}
use Rattle.std.proofs.lemmas.List.{drop_more, drop_all}
use Rattle.std.proofs.lemmas.Bool.{and_parts, eqb-true, leb-true, cond-true, false≢true}
use Rattle.std.proofs.lemmas.Bool.Decides.{nat_tests}
use Rattle.std.specs.List.{position, prefix_len}
use Rattle.polar.specs.declared.refusal.Refusal.TheVariants.{WorkingRoom, NotTaken, ItemCount}
use Rattle.soft.specs.Kind.{Kind, limit}
use Rattle.polar.specs.Words.{trues}
use Rattle.polar.specs.Bytes.{bit, bits, bytes}
use Rattle.polar.specs.Marks.{weight, spread, Codeword}
use Rattle.polar.specs.Codewords.{tree_of, codeword, data_of}
use Rattle.polar.proofs.Shapes.{leaves_balanced}
use Rattle.polar.proofs.Active.{length_spread, spread_clear}
use Rattle.polar.specs.declared.plan.Plan.{Plan}
use Rattle.polar.specs.declared.refusal.Refusal.{Refusal}
use Rattle.polar.specs.Plans.{marks_of, TakenOut}
use Rattle.polar.proofs.PlanFacts.{sized}
use Rattle.polar.proofs.Dues.{some_due, unless_none}
use Rattle.polar.proofs.Parts.{label_codeword}
use Rattle.polar.proofs.Codes.{taken_out}
use Rattle.readers.specs.Readings.{Reading, ReaderRules, Posed, AllFit, most_places, total}
use Rattle.readers.specs.Blocks.{first_unfit, unfit_due, list_due, pile_due, NearReadsTrue}

-- ---- options of a place

later_none : (o : Option ℕ) → option_map suc o ≡ None → o ≡ None
later_none None h = refl
later_none (Some k) h = let z : ◌≡◌ {A = ℕ} 0 1 = cc in absurd (omega arith)

-- one place further, where the first of a list is looked for behind its head
position_further : (n m : ℕ) → option_map suc (cond (nat_lt n m) (Some n) None) ≡ cond (nat_lt (1 + n) (suc m)) (Some (1 + n)) None
position_further n m = grind (arith, nat_tests)

module _ {K : Type 0} (kind : Kind K) where
  -- one value more at the front of what is left of a row
  rest : (values : List K) (i : ℕ) (v : K) → i < length values → v ≡ get_or values i v → drop i values ≡ v ∷ drop (i + 1) values
  rest values i v within read = drop_more values i v within ∙ ap (λ x. x ∷ drop (i + 1) values) (sym read)

  -- every value fits where no place is the first that does not
  pub all_fit_from : (values : List K) → first_unfit kind values ≡ None → AllFit kind 0 values
  all_fit_from [] none = tt
  all_fit_from (v ∷ values) none = by (kind.fitting v 0) refl none (all_fit_from values)
    where
      by : (b : Bool) → kind.fitting v 0 ≡ b → cond b (option_map suc (first_unfit kind values)) (Some 0) ≡ None
          → (first_unfit kind values ≡ None → AllFit kind 0 values) → AllFit kind 0 (v ∷ values)
      by true is h others = (subst T (sym is) tt, others (later_none (first_unfit kind values) h))
      by false is h others = let z : ◌≡◌ {A = ℕ} 0 1 = cc in absurd (omega arith)

  -- the first value that does not fit, in the words of the library
  pub first_unfit_is : (values : List K) → first_unfit kind values ≡ position (λ v. not (kind.fitting v 0)) values
  first_unfit_is [] = refl
  first_unfit_is (v ∷ values) = by (kind.fitting v 0) (first_unfit_is values)
    where
      by : (b : Bool) → first_unfit kind values ≡ position (λ v. not (kind.fitting v 0)) values
          → cond b (option_map suc (first_unfit kind values)) (Some 0) ≡ (let n = cond (not (not b)) (1 + prefix_len (λ v. not (not (kind.fitting v 0))) values) 0 in cond (nat_lt n (length (v ∷ values))) (Some n) None)
      by true same = ap (option_map suc) same ∙ position_further _ _
      by false same = sym (cond-true (nat_lt 0 (length (v ∷ values))) _ _ (grind (arith, nat_tests)))

  -- once a value does not fit, the list does not
  unfit_stays : (values : List K) → fold (λ all v. all && kind.fitting v 0) false values ≡ false
  unfit_stays [] = refl
  unfit_stays (v ∷ values) = unfit_stays values

  -- a list that fits has no first value that does not
  pub none_unfit : (values : List K) → fold (λ all v. all && kind.fitting v 0) true values ≡ true → first_unfit kind values ≡ None
  none_unfit [] all = refl
  none_unfit (v ∷ values) all = by (kind.fitting v 0) all (none_unfit values)
    where
      by : (b : Bool) → fold (λ all v. all && kind.fitting v 0) b values ≡ true → (fold (λ all v. all && kind.fitting v 0) true values ≡ true → first_unfit kind values ≡ None)
          → cond b (option_map suc (first_unfit kind values)) (Some 0) ≡ None
      by true all others = ap (option_map suc) (others all)
      by false all others = absurd (false≢true (sym (unfit_stays values) ∙ all))

  -- the shortfall of one value and one bit more
  pub total_more : (values : List K) (word : List ℕ) (i : ℕ) (v : K) → i < length values → i < length word → v ≡ get_or values i v
      → total kind 0 (drop i values) (bits (drop i word)) ≡ kind.shortfall v (bit (get_or word i 0)) 0 + total kind 0 (drop (i + 1) values) (bits (drop (i + 1) word))
  total_more values word i v p q read = rw (rest values i v p read, drop_more word i 0 q)

  pub total_none : (values : List K) (word : List ℕ) (i : ℕ) → length values ≤ i → total kind 0 (drop i values) (bits (drop i word)) ≡ 0
  total_none values word i past = ap (λ vs. total kind 0 vs (bits (drop i word))) (drop_all i values past)

  -- what an accepted pile has: it takes the marks, and its places are there
  pub pile_facts : (reading : Reading K) (ms : List Bool) (soft_places bit_places : ℕ) → pile_due reading ms soft_places bit_places None ≡ None
      → (reading.taking ms ≡ true) × (reading.soft_need (length ms) ≤ most_places) × (reading.bit_need (length ms) ≤ most_places)
      × (reading.soft_need (length ms) + length ms ≤ soft_places) × (reading.bit_need (length ms) + length ms ≤ bit_places)
  pile_facts reading ms soft_places bit_places none =
      let taken = unless_none (reading.taking ms) NotTaken _ none in
      let room = (unless_none _ WorkingRoom None taken.1).0 in
      let abc = and_parts _ (leb (reading.bit_need (length ms) + length ms) bit_places) room in
      let ab = and_parts _ (leb (reading.soft_need (length ms) + length ms) soft_places) abc.0 in
      let a = and_parts (leb (reading.soft_need (length ms)) most_places) (leb (reading.bit_need (length ms)) most_places) ab.0 in
      (taken.0, leb-true _ _ a.0, leb-true _ _ a.1, leb-true _ _ ab.1, leb-true _ _ abc.1)

  -- what an accepted list has: as many values as symbols, each of which fits
  pub list_facts : (unfit : ℕ → Refusal) (ms : List Bool) (values : List K) → list_due kind unfit ms values None ≡ None → (length values ≡ length ms) × AllFit kind 0 values
  list_facts unfit ms values none =
      let some = unless_none (eqb (length values) (length ms)) ItemCount _ none in
      (eqb-true _ _ some.0, all_fit_from values (by (first_unfit kind values) some.1))
    where
      by : (o : Option ℕ) → unfit_due unfit o None ≡ None → o ≡ None
      by None h = refl
      by (Some place) h = absurd (some_due (unfit place) h)

  -- an accepted list, as it is given to a reader
  pub posed_list : (unfit : ℕ → Refusal) (plan : Plan) (values : List K) → list_due kind unfit (marks_of plan) values None ≡ None → Posed kind (marks_of plan) 0 values
  posed_list unfit plan values none =
      let size = sized plan in
      let facts = list_facts unfit (marks_of plan) values none in
      record { some = size.0; short = rw mul-one size.1; same = facts.0; fits = facts.1 }

  -- a codeword of the plan that is near is what the pile answers, and its data are what is written
  pub near_reads_true : (reading : Reading K) → ReaderRules kind reading → (ms : List Bool) (values : List K) (out tail : List ℕ) (n : ℕ)
      → reading.taking ms ≡ true → Posed kind ms 0 values → n ≡ trues ms
      → out ≡ bytes (data_of ms (reading.answer ms 0 values)) ++ tail → NearReadsTrue kind ms values (take n out)
  near_reads_true reading rules ms values out tail n taken posed count is ds size near =
      let c = codeword ms ds in
      let code : Codeword (tree_of ms) ms c = label_codeword (tree_of ms) ms (spread ms ds) (length_spread ms ds ∙ sym (leaves_balanced (length ms) posed.some)) (spread_clear ms ds) in
      let unit : limit kind 0 ≡ kind.unit = mul-one kind.unit in
      let close : total kind 0 values c < limit kind 0 * weight (tree_of ms) ms = rw unit near in
      let same : reading.answer ms 0 values ≡ c = rules.answers_near ms 0 values c taken posed code close in
      rw is (taken_out ms (reading.answer ms 0 values) ds tail n posed.some count size same)

  -- the same of the data that are taken out of the answer
  pub near_taken_out : (reading : Reading K) → ReaderRules kind reading → (ms : List Bool) (values : List K) (word : List Bool) (before : List ℕ) (answer : Result ℕ Refusal) (labels : List Bool) (after : List ℕ)
      → reading.taking ms ≡ true → Posed kind ms 0 values → word ≡ reading.answer ms 0 values → TakenOut ms word before answer labels after
      → IfOk answer (λ k. NearReadsTrue kind ms values (take k after))
  near_taken_out reading rules ms values word before (Ok k) labels after taken posed is done =
      let written : after ≡ bytes (data_of ms (reading.answer ms 0 values)) ++ drop k before = subst (λ w. after ≡ bytes (data_of ms w) ++ drop k before) is done.1.1 in
      near_reads_true reading rules ms values after (drop k before) k taken posed done.1.0 written
  near_taken_out reading rules ms values word before (Err e) labels after taken posed is done = tt
