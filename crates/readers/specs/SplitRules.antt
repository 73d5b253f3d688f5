-- The split keeps the rules of a reader, if the reader below does. Assumes nothing.
use Rattle.std.specs.Prelude.{◌≡◌, ℕ, ◌+◌, ◌-◌, ◌*◌, ◌/◌, ◌^◌, ◌<◌, ◌≤◌, Bool, true, List, [], ◌∷◌, length, take, drop, refl}
use Rattle.std.proofs.Common.{sym, ap, subst, ◌∙◌, arith, mul_assoc, mul-le-mul_left, pow-add}
use Rattle.std.proofs.lemmas.List.{length-take-le, length-drop}
use Rattle.std.proofs.lemmas.Bool.{cond_both}
use Rattle.soft.specs.Kind.{Kind, Rules, limit}
use Rattle.polar.specs.Shape.{Shape, node, leaves, balanced}
use Rattle.polar.specs.Words.{plus}
use Rattle.polar.specs.Labels.{join}
use Rattle.polar.specs.Marks.{Codeword, weight}
use Rattle.polar.proofs.Shapes.{balanced_one, balanced_node, leaves_balanced, left_heavy_balanced, halves}
use Rattle.polar.proofs.Distance.{lesser_left, lesser_right}
use Rattle.polar.proofs.Parts.{parts_join, left_codeword, right_codeword, join_codeword, same_codeword, left_part, right_part}
use Rattle.readers.specs.Readings.{Reading, ReaderRules, Posed, total}
use Rattle.readers.specs.SplitReading.{left_values, right_values, split_answer, split_reading}
use Rattle.readers.specs.Rows.{all_take, all_drop}
use Rattle.readers.specs.Node.{posed_few}
use Rattle.readers.specs.Totals.{total_join, total_compared, total_joined}
use Rattle.readers.specs.SplitSteps.{posed_left, posed_right}

-- twice the weight at one turn is the weight at the next
limit_next : {K : Type 0} (kind : Kind K) (turns w : ℕ) → limit kind turns * (2 * w) ≡ limit kind (turns + 1) * w
limit_next kind turns w =
    let next : limit kind turns * 2 ≡ limit kind (turns + 1) = mul_assoc kind.unit (2 ^ turns) 2 ∙ ap (λ p. kind.unit * p) (sym (pow-add 2 turns 1)) in
    sym (mul_assoc (limit kind turns) 2 w) ∙ ap (λ n. n * w) next

module _ {K : Type 0} (kind : Kind K) (rules : Rules kind) (below : Reading K) (belows : ReaderRules kind below) where
  -- what the reader below answers, over the tree of a length that the marks have
  taken_label : (n : ℕ) (marks : List Bool) (turns : ℕ) (values : List K) → length marks ≡ n → Posed kind marks turns values → below.taking marks ≡ true → Codeword (balanced n) marks (below.answer marks turns values)
  taken_label n marks turns values size posed taken =
      subst (λ k. Codeword (balanced k) marks (below.answer marks turns values)) size (belows.answers_label marks turns values taken posed)

  taken_near : (n : ℕ) (marks : List Bool) (turns : ℕ) (values : List K) (word : List Bool) → length marks ≡ n → Posed kind marks turns values → Codeword (balanced n) marks word
      → total kind turns values word < limit kind turns * weight (balanced n) marks → below.taking marks ≡ true → below.answer marks turns values ≡ word
  taken_near n marks turns values word size posed code near taken =
      belows.answers_near marks turns values word taken posed
      (subst (λ k. Codeword (balanced k) marks word) (sym size) code)
      (subst (λ k. total kind turns values word < limit kind turns * weight (balanced k) marks) (sym size) near)

  leaf_taken : (marks : List Bool) → length marks ≡ 1 → below.taking marks ≡ true
  leaf_taken [] long = absurd (omega arith)
  leaf_taken (m ∷ []) long = belows.leaf_taken m
  leaf_taken (m ∷ n ∷ marks) long = absurd (omega arith)

  abbrev answered : ℕ → List Bool → ℕ → List K → List Bool
  answered n marks turns values = split_answer kind below (balanced n) marks turns values

  -- a node of n symbols, from 2 up, by its children
  module _ (n : ℕ) (two : 2 ≤ n) (marks : List Bool) (turns : ℕ) (values : List K) (size : length marks ≡ n) (posed : Posed kind marks turns values) where
    abbrev l : Shape
    l = balanced (n - n / 2)

    abbrev r : Shape
    r = balanced (n / 2)

    abbrev h : ℕ
    h = leaves l

    size_l : leaves l ≡ n - n / 2
    size_l = leaves_balanced (n - n / 2) (omega arith)

    size_r : leaves r ≡ n / 2
    size_r = leaves_balanced (n / 2) (omega arith)

    long : length marks ≡ leaves l + leaves r
    long = size ∙ omega (arith, size_l, size_r)

    two_marks : 2 ≤ length marks
    two_marks = omega arith

    halved : h ≡ length marks - length marks / 2
    halved = size_l ∙ ap (λ k. k - k / 2) (sym size)

    front_marks : length (take h marks) ≡ n - n / 2
    front_marks = length-take-le h marks (omega (arith, long)) ∙ size_l

    back_marks : length (drop h marks) ≡ n / 2
    back_marks = length-drop h marks ∙ omega (arith, size_l)

    abbrev lefts : List K
    lefts = left_values kind h values

    abbrev rights : List Bool → List K
    rights left = right_values kind h values left

    posed_l : Posed kind (take h marks) turns lefts
    posed_l = posed_left kind rules marks turns values posed two_marks h halved

    posed_r : (left : List Bool) → length left ≡ h → Posed kind (drop h marks) (turns + 1) (rights left)
    posed_r left wide = posed_right kind rules marks turns values posed two_marks h halved left wide

    -- the answer is a label, if the children's are
    label_step : Codeword l (take h marks) (answered (n - n / 2) (take h marks) turns lefts)
        → ((left : List Bool) → length left ≡ h → Codeword r (drop h marks) (answered (n / 2) (drop h marks) (turns + 1) (rights left)))
        → Codeword (balanced n) marks (answered n marks turns values)
    label_step left right =
        subst (λ s. Codeword s marks (split_answer kind below s marks turns values)) (sym (balanced_node n two))
        (cond_both (below.taking marks) _ _ (Codeword (node l r) marks)
        (λ taken. subst (λ s. Codeword s marks (below.answer marks turns values)) (balanced_node n two) (taken_label n marks turns values size posed taken))
        (λ untaken. join_codeword l r marks long _ _ left (right _ left.0)))

    module _ (word : List Bool) (code : Codeword (node l r) marks word) (near : total kind turns values word < limit kind turns * weight (node l r) marks) where
      abbrev x : List Bool
      x = left_part l r marks long word

      abbrev y : List Bool
      y = right_part l r marks long word

      is_x : Codeword l (take h marks) x
      is_x = left_codeword l r marks long word code

      is_y : Codeword r (drop h marks) y
      is_y = right_codeword l r marks long word code

      front : length (take h values) ≡ length x
      front = length-take-le h values (omega (arith, posed.same, long)) ∙ sym is_x.0

      back : length (drop h values) ≡ length y
      back = length-drop h values ∙ omega (arith, posed.same, long, is_y.0)

      parts : total kind turns values word ≡ total kind turns (take h values) (plus x y) + total kind turns (drop h values) y
      parts = ap (total kind turns values) (parts_join l r marks long word) ∙ total_join kind h turns values x y is_x.0 (omega (arith, posed.same, long))

      few : turns ≤ 11
      few = posed_few posed two_marks

      compared : total kind turns lefts x ≤ total kind turns values word
      compared = rw parts (total_compared kind rules turns (omega (arith, few)) (take h values) (drop h values) x y (all_take _ h values posed.fits) (all_drop _ h values posed.fits) front back)

      joined : total kind (turns + 1) (rights x) y ≤ total kind turns values word
      joined = rw parts (total_joined kind rules turns few (take h values) (drop h values) x y (all_take _ h values posed.fits) (all_drop _ h values posed.fits) front back)

      -- each child's label is near where it has an active leaf
      near_left : 1 ≤ weight l (take h marks) → total kind turns lefts x < limit kind turns * weight l (take h marks)
      near_left some =
          let less = mul-le-mul_left (limit kind turns) (lesser_left (weight l (take h marks)) (2 * weight r (drop h marks)) some).1 in
          omega (arith, compared, near, less)

      near_right : 1 ≤ weight r (drop h marks) → total kind (turns + 1) (rights x) y < limit kind (turns + 1) * weight r (drop h marks)
      near_right some =
          let w = weight r (drop h marks) in
          let less = mul-le-mul_left (limit kind turns) (lesser_right (weight l (take h marks)) (2 * w) (omega arith)).1 in
          omega (arith, joined, near, less, limit_next kind turns w)

      -- the near label is the answer, if the children's are
      near_step : answered (n - n / 2) (take h marks) turns lefts ≡ x → answered (n / 2) (drop h marks) (turns + 1) (rights x) ≡ y
          → split_answer kind below (node l r) marks turns values ≡ word
      near_step same_l same_r =
          cond_both (below.taking marks) _ _ (λ answer. answer ≡ word)
          (λ taken. taken_near n marks turns values word size posed (subst (λ s. Codeword s marks word) (sym (balanced_node n two)) code) (subst (λ s. total kind turns values word < limit kind turns * weight s marks) (sym (balanced_node n two)) near) taken)
          (λ untaken.
          ap (λ left. join left (answered (n / 2) (drop h marks) (turns + 1) (rights left))) same_l
          ∙ ap (join x) same_r ∙ sym (parts_join l r marks long word))

  pub split_label : (n : ℕ) → 1 ≤ n → (marks : List Bool) (turns : ℕ) (values : List K) → length marks ≡ n → Posed kind marks turns values → Codeword (balanced n) marks (answered n marks turns values)
  split_label =
      halves (λ n. (marks : List Bool) (turns : ℕ) (values : List K) → length marks ≡ n → Posed kind marks turns values → Codeword (balanced n) marks (answered n marks turns values))
      (λ marks turns values size posed.
      subst (λ s. Codeword (balanced 1) marks (split_answer kind below s marks turns values)) (sym balanced_one) (taken_label 1 marks turns values size posed (leaf_taken marks size)))
      (λ n two left right marks turns values size posed.
      label_step n two marks turns values size posed
      (left _ turns _ (front_marks n two marks turns values size posed) (posed_l n two marks turns values size posed))
      (λ answer wide. right _ (turns + 1) _ (back_marks n two marks turns values size posed) (posed_r n two marks turns values size posed answer wide)))

  pub split_near : (n : ℕ) → 1 ≤ n → (marks : List Bool) (turns : ℕ) (values : List K) (word : List Bool) → length marks ≡ n → Posed kind marks turns values → Codeword (balanced n) marks word
      → total kind turns values word < limit kind turns * weight (balanced n) marks → answered n marks turns values ≡ word
  split_near =
      halves (λ n. (marks : List Bool) (turns : ℕ) (values : List K) (word : List Bool) → length marks ≡ n → Posed kind marks turns values → Codeword (balanced n) marks word → total kind turns values word < limit kind turns * weight (balanced n) marks → answered n marks turns values ≡ word)
      (λ marks turns values word size posed code near.
      ap (λ s. split_answer kind below s marks turns values) balanced_one ∙ taken_near 1 marks turns values word size posed code near (leaf_taken marks size))
      step
    where
      step : (n : ℕ) → 2 ≤ n
          → ((marks : List Bool) (turns : ℕ) (values : List K) (word : List Bool) → length marks ≡ n - n / 2 → Posed kind marks turns values → Codeword (balanced (n - n / 2)) marks word → total kind turns values word < limit kind turns * weight (balanced (n - n / 2)) marks → answered (n - n / 2) marks turns values ≡ word)
          → ((marks : List Bool) (turns : ℕ) (values : List K) (word : List Bool) → length marks ≡ n / 2 → Posed kind marks turns values → Codeword (balanced (n / 2)) marks word → total kind turns values word < limit kind turns * weight (balanced (n / 2)) marks → answered (n / 2) marks turns values ≡ word)
          → (marks : List Bool) (turns : ℕ) (values : List K) (word : List Bool) → length marks ≡ n → Posed kind marks turns values → Codeword (balanced n) marks word → total kind turns values word < limit kind turns * weight (balanced n) marks → answered n marks turns values ≡ word
      step n two left right marks turns values word size posed code near =
          let code' = subst (λ s. Codeword s marks word) (balanced_node n two) code in
          let near' = subst (λ s. total kind turns values word < limit kind turns * weight s marks) (balanced_node n two) near in
          let bl = l n two marks turns values size posed in
          let br = r n two marks turns values size posed in
          let cut = leaves bl in
          let xl = plus (take cut word) (drop cut word) in
          let yr = drop cut word in
          let fm = front_marks n two marks turns values size posed in
          let bm = back_marks n two marks turns values size posed in
          let pl = posed_l n two marks turns values size posed in
          let cx = is_x n two marks turns values size posed word code' near' in
          let cy = is_y n two marks turns values size posed word code' near' in
          let pr = posed_r n two marks turns values size posed xl cx.0 in
          let same_l : answered (n - n / 2) (take cut marks) turns (left_values kind cut values) ≡ xl =
          same_codeword bl (take cut marks) _ xl (left_heavy_balanced (n - n / 2) (omega arith)) (fm ∙ sym (size_l n two marks turns values size posed))
          (split_label (n - n / 2) (omega arith) (take cut marks) turns _ fm pl) cx
          (λ some. left (take cut marks) turns _ xl fm pl cx (near_left n two marks turns values size posed word code' near' some)) in
          let same_r : answered (n / 2) (drop cut marks) (turns + 1) (right_values kind cut values xl) ≡ yr =
          same_codeword br (drop cut marks) _ yr (left_heavy_balanced (n / 2) (omega arith)) (bm ∙ sym (size_r n two marks turns values size posed))
          (split_label (n / 2) (omega arith) (drop cut marks) (turns + 1) _ bm pr) cy
          (λ some. right (drop cut marks) (turns + 1) _ yr bm pr cy (near_right n two marks turns values size posed word code' near' some)) in
          ap (λ s. split_answer kind below s marks turns values) (balanced_node n two) ∙ near_step n two marks turns values size posed word code' near' same_l same_r

  pub split_rules : ReaderRules kind (split_reading kind below)
  split_rules = record {
    leaf_taken = λ mark. refl;
    answers_label = λ marks turns values taken posed. split_label (length marks) posed.some marks turns values refl posed;
    answers_near = λ marks turns values word taken posed code near. split_near (length marks) posed.some marks turns values word refl posed code near;
    soft_grows = λ a b h. omega (arith, belows.soft_grows a b h);
    bits_grow = λ a b h. omega (arith, belows.bits_grow a b h);
  }
