-- One level of reading by halves. Assumes nothing.
use Rattle.std.specs.Prelude.{◌≡◌, ℕ, ◌+◌, ◌-◌, ◌*◌, ◌/◌, ◌^◌, ◌≤◌, max, Bool, true, false, T, List, [], ◌∷◌, length, take, drop, refl}
use Rattle.std.proofs.Common.{sym, ap, ◌∙◌, arith, mul-le-mul_right}
use Rattle.std.proofs.lemmas.List.{length-drop, length-take-le}
use Rattle.std.proofs.lemmas.Bool.{both_ways, cond-true, cond-false}
use Rattle.soft.specs.Kind.{Kind, Rules}
use Rattle.polar.specs.Shape.{Shape, leaf, node, balanced}
use Rattle.polar.specs.Labels.{join}
use Rattle.polar.proofs.Shapes.{balanced_one, balanced_node, leaves_balanced, halves}
use Rattle.polar.proofs.Merges.{length_merge}
use Rattle.readers.specs.Readings.{Reading, ReaderRules, Posed, Ready}
use Rattle.readers.specs.SplitReading.{split_answer, split_reading, left_values, right_values, own_places}
use Rattle.readers.specs.Halves.{Halving}
use Rattle.readers.specs.Node.{posed_turns, posed_few, right_short}
use Rattle.readers.specs.Rows.{all_take, all_drop, all_merge, length_joins, all_joins}

module _ {K : Type 0} (kind : Kind K) (rules : Rules kind) (marks : List Bool) (turns : ℕ) (values : List K) (posed : Posed kind marks turns values) (two : 2 ≤ length marks) (half : ℕ) (halved : half ≡ length marks - length marks / 2) where
  left_long : length (left_values kind half values) ≡ half
  left_long = length_merge kind.compared _ _ ∙ length-take-le half values (omega (arith, posed.same))

  pub posed_left : Posed kind (take half marks) turns (left_values kind half values)
  posed_left =
      let long : length (take half marks) ≡ half = length-take-le half marks (omega arith) in
      let few : turns ≤ 12 = posed_turns posed in
      record {
        some = omega arith;
        short = omega (arith, posed.short, mul-le-mul_right {m = length (take half marks)} {n = length marks} (2 ^ turns) (omega arith));
        same = left_long ∙ sym long;
        fits = all_merge kind.compared (λ v. T (kind.fitting v turns)) (λ v w. rules.compared_fits v w turns few) _ _ (all_take _ half values posed.fits) (all_drop _ half values posed.fits);
      }

  pub posed_right : (left : List Bool) → length left ≡ half → Posed kind (drop half marks) (turns + 1) (right_values kind half values left)
  posed_right left wide =
      let long : length (drop half marks) ≡ length marks / 2 = simp length-drop (omega arith) in
      let front : length (take half values) ≡ half = length-take-le half values (omega (arith, posed.same)) in
      let back : length (drop half values) ≡ length marks / 2 = simp length-drop (omega (arith, posed.same)) in
      let few : turns ≤ 11 = posed_few posed two in
      record {
        some = omega arith;
        short = rw long (right_short (length marks) turns posed.short);
        same = length_joins kind.joined _ _ left (omega arith) (omega arith) ∙ back ∙ sym long;
        fits = all_joins kind.joined (λ v. T (kind.fitting v turns)) (λ v. T (kind.fitting v (turns + 1))) (λ v w b. rules.joined_fits v w b turns few) _ _ left (all_take _ half values posed.fits) (all_drop _ half values posed.fits);
      }

module _ {K : Type 0} (kind : Kind K) (below : Reading K) where
  pub split_taken : (s : Shape) (marks : List Bool) (turns : ℕ) (values : List K) → below.taking marks ≡ true → split_answer kind below s marks turns values ≡ below.answer marks turns values
  split_taken leaf marks turns values taken = refl
  split_taken (node l r) marks turns values taken = cond-true (below.taking marks) _ _ taken

  pub same_answer : (ms ms' : List Bool) (turns : ℕ) (vs vs' : List K) (n : ℕ) → ms ≡ ms' → vs ≡ vs' → length ms ≡ n → split_answer kind below (balanced (length ms)) ms turns vs ≡ split_answer kind below (balanced n) ms' turns vs'
  same_answer ms ms' turns vs vs' n ism isv long = cc

  abbrev by_halves : Shape → Shape → ℕ → List Bool → ℕ → List K → List Bool
  by_halves l r half marks turns values =
      let left = split_answer kind below l (take half marks) turns (left_values kind half values) in
      let right = split_answer kind below r (drop half marks) (turns + 1) (right_values kind half values left) in
      join left right

  pub split_untaken : (marks : List Bool) (turns : ℕ) (values : List K) (half : ℕ) (left right : List Bool) → below.taking marks ≡ false → 2 ≤ length marks → half ≡ length marks - length marks / 2 →
      left ≡ split_answer kind below (balanced half) (take half marks) turns (left_values kind half values) →
      right ≡ split_answer kind below (balanced (length marks / 2)) (drop half marks) (turns + 1) (right_values kind half values left) →
      join left right ≡ split_answer kind below (balanced (length marks)) marks turns values
  split_untaken marks turns values half left right untaken two halved isl isr =
      let n = length marks in
      let answered = λ (s : Shape). split_answer kind below s marks turns values in
      let parts = balanced_node n two in
      let first = leaves_balanced (n - n / 2) (omega arith) ∙ sym halved in
      let unfolded = ap answered parts ∙ cond-false (below.taking marks) _ _ untaken in
      let moved = ap (λ k. by_halves (balanced (n - n / 2)) (balanced (n / 2)) k marks turns values) first ∙ ap (λ k. by_halves (balanced k) (balanced (n / 2)) half marks turns values) (sym halved) in
      let read : join left right ≡ by_halves (balanced half) (balanced (n / 2)) half marks turns values = cc in
      read ∙ sym (unfolded ∙ moved)

-- the split's own places: the values of one child, and what its children's reading works in
own_node : (n : ℕ) → 2 ≤ n → own_places (balanced n) ≡ n - n / 2 + max (own_places (balanced (n - n / 2))) (own_places (balanced (n / 2)))
own_node n two = ap own_places (balanced_node n two) ∙ rw (leaves_balanced (n - n / 2) (omega arith))

pub own_least : (n : ℕ) → 2 ≤ n → n - n / 2 ≤ own_places (balanced n)
own_least n two = omega (arith, own_node n two)

-- they are within what a split tells
pub own_most : (n : ℕ) → 1 ≤ n → own_places (balanced n) ≤ 4 * n
own_most =
    halves (λ n. own_places (balanced n) ≤ 4 * n)
    (rw balanced_one (omega arith))
    (λ n two left right. omega (arith, own_node n two))

module _ {K : Type 0} (kind : Kind K) (rules : Rules kind) (below : Reading K) (belows : ReaderRules kind below) where
  -- what a split is given suffices for reading by halves
  pub split_ready : (marks : List Bool) (soft bits out : ℕ) → 1 ≤ length marks → Ready (split_reading kind below) marks soft bits out → Halving below marks soft bits out
  split_ready marks soft bits out some ready =
      let own = own_most (length marks) some in
      record {
        out_room = ready.out_room;
        soft_room = omega (arith, ready.soft_room, ready.soft_told);
        bit_room = omega (arith, ready.bit_room, ready.bits_told);
        soft_told = omega (arith, ready.soft_told);
        bits_told = omega (arith, ready.bits_told);
      }

  pub two_leaves : (marks : List Bool) → 1 ≤ length marks → below.taking marks ≡ false → 2 ≤ length marks
  two_leaves [] some untaken = absurd (omega arith)
  two_leaves (m ∷ []) some untaken = absurd (both_ways _ untaken (belows.leaf_taken m))
  two_leaves (m ∷ n ∷ marks) some untaken = omega arith

  module _ (marks : List Bool) (soft bits out : ℕ) (ready : Halving below marks soft bits out) (two : 2 ≤ length marks) (half : ℕ) (halved : half ≡ length marks - length marks / 2) (rest : ℕ) (cut : rest + half ≡ soft) where
    pub left_ready : (ms : List Bool) (room : ℕ) → ms ≡ take half marks → room ≡ half → Halving below ms rest bits room
    left_ready ms room ism long =
        let n = length marks in
        let size : length ms ≡ half = ap length ism ∙ length-take-le half marks (omega arith) in
        let own = own_node n two in
        let mine : own_places (balanced (length ms)) ≡ own_places (balanced (n - n / 2)) = ap (λ k. own_places (balanced k)) (size ∙ halved) in
        let softer : below.soft_need (length ms) ≤ below.soft_need n = belows.soft_grows (length ms) n (omega arith) in
        let fewer : below.bit_need (length ms) ≤ below.bit_need n = belows.bits_grow (length ms) n (omega arith) in
        record {
          out_room = long ∙ sym size;
          soft_room = omega (arith, ready.soft_room);
          bit_room = omega (arith, ready.bit_room);
          soft_told = omega (arith, ready.soft_told);
          bits_told = omega (arith, ready.bits_told);
        }

    pub right_ready : (ms : List Bool) (bits' room : ℕ) → ms ≡ drop half marks → bits' ≡ bits → room + half ≡ length marks → Halving below ms rest bits' room
    right_ready ms bits' room ism kept long =
        let n = length marks in
        let size : length ms ≡ n - half = ap length ism ∙ length-drop half marks in
        let own = own_node n two in
        let rest_is : n - half ≡ n / 2 = omega arith in
        let mine : own_places (balanced (length ms)) ≡ own_places (balanced (n / 2)) = ap (λ k. own_places (balanced k)) (size ∙ rest_is) in
        let softer : below.soft_need (length ms) ≤ below.soft_need n = belows.soft_grows (length ms) n (omega arith) in
        let fewer : below.bit_need (length ms) ≤ below.bit_need n = belows.bits_grow (length ms) n (omega arith) in
        record {
          out_room = omega arith;
          soft_room = omega (arith, ready.soft_room);
          bit_room = omega (arith, ready.bit_room);
          soft_told = omega (arith, ready.soft_told);
          bits_told = omega (arith, ready.bits_told);
        }
