-- What a walk's steps do to its frames. Assumes nothing.
use Rattle.std.proofs.Common.{◌≡◌, ℕ, zero, suc, ◌+◌, ◌-◌, ◌/◌, ◌^◌, ◌<◌, ◌≤◌, Bool, MatchBool, true, false, not, ◌≢◌, List, [], ◌∷◌, ◌++◌, All, HoldsAt, sum_by, length, take, set, sym, refl, ap, ◌∙◌, subst, ⊎_elim, append_assoc, append-nil, add-zero, zero-add, arith, get_or-set_other, get_or-set_same}
use mathlib.Core.List.{nil≢cons}
use mathlib.Core.Bool.{false≢true}
use Rattle.std.specs.List.{AllWithin}
use Rattle.std.proofs.lemmas.List.Elements.{All-head, All-tail, All-from_all_within}
use Rattle.std.proofs.lemmas.List.Recursion.{is_sum_by}
use Rattle.std.proofs.lemmas.List.Sums.{sum_by_more}
use Rattle.std.proofs.lemmas.List.{take_more, take-set}
use Rattle.std.proofs.lemmas.Bool.{cases_eq, cases_lt}
use Rattle.std.proofs.lemmas.Bool.Decides.{nat_tests}
use Rattle.polar.specs.Shape.{Shape, leaf, node, leaves, balanced}
use Rattle.polar.specs.Preorder.{node_at, nodes, reading_order, under, under_right, todo_by, todo, later, pending, turning, turn_by, turned, fresh, kind_of, more_done, one_more, frame_at, ahead, here, More, Unfinished, RightAhead, Stepped}
use Rattle.polar.specs.declared.frame.Frame.{Frame}
use Rattle.polar.specs.contracts.frame.Kind.{the_type as kinds}
use Rattle.polar.specs.contracts.frame.Done.{the_type as dones}
use denote.Enum.Bare.{sameb}
use Rattle.polar.specs.declared.frame.Kind.{Kind}
use Rattle.polar.specs.declared.frame.Kind.TheVariants.{Leaf, Inner}
use Rattle.polar.specs.declared.frame.Done.{Done}
use Rattle.polar.specs.declared.frame.Done.TheVariants.{Neither, Left, Both}
use Rattle.polar.proofs.Shapes.{balanced_leaf, balanced_node, leaves_balanced}

-- a fact about each frame on the way, after a write to the frame at i
pub set_keeps : (P : ℕ → Frame → Type 0) (fs : List Frame) (i d : ℕ) (f : Frame) → i < length fs
    → ((k : ℕ) → k ≤ d → k ≢ i → P k (frame_at fs k)) → P i f → (k : ℕ) → k ≤ d → P k (frame_at (set fs i f) k)
set_keeps P fs i d f within others new k h =
    ⊎_elim
    (λ same.
    let at : frame_at (set fs i f) k ≡ f = ap (frame_at (set fs i f)) same ∙ get_or-set_same fs i f (fresh 0 0) within in
    subst (λ g. P k g) (sym at) (subst (λ j. P j f) (sym same) new))
    (λ apart. subst (λ g. P k g) (sym (get_or-set_other fs i k f (fresh 0 0) apart)) (others k h apart))
    (cases_eq k i)

nodes_is : (s : Shape) (from t : ℕ) → nodes s from t ≡ node_at (leaves s) from t ∷ under s from t
nodes_is leaf from t = refl
nodes_is (node l r) from t = refl

pub turned_sum : (fs : List Frame) → turned fs ≡ sum_by turning fs
turned_sum = is_sum_by turned turning refl (λ f fs. refl)

-- the turns one node further down
pub turned_more : (fs : List Frame) (d : ℕ) → d < length fs → turned (take (d + 1) fs) ≡ turned (take d fs) + turning (frame_at fs d)
turned_more fs d h = rw (turned_sum (take (d + 1) fs), turned_sum (take d fs)) (sum_by_more turning fs d (fresh 0 0) h)

pub turn_most : (d : Done) → turn_by d ≤ 1
turn_most Neither = omega arith
turn_most Left = omega arith
turn_most Both = omega arith

-- one turn at most at each node on the way
pub turned_most : (fs : List Frame) → turned fs ≤ length fs
turned_most [] = omega arith
turned_most (f ∷ fs) = omega (arith, turn_most f.done, turned_most fs)

pending_push : (t : ℕ) (fs : List Frame) (f : Frame) → pending t (fs ++ f ∷ []) ≡ later (t + turned fs) f ++ pending t fs
pending_push t [] f = sym (append-nil (later (t + 0) f) ∙ ap (λ u. later u f) (add-zero t))
pending_push t (g ∷ fs) f =
    let u = t + turning g in
    let same : u + turned fs ≡ t + (turning g + turned fs) = omega arith in
    ap (λ z. z ++ later t g) (pending_push u fs f)
    ∙ append_assoc (later (u + turned fs) f) (pending u fs) (later t g)
    ∙ ap (λ v. later v f ++ (pending u fs ++ later t g)) same

-- the way one node longer
pending_more : (fs : List Frame) (d : ℕ) → d < length fs
    → pending 0 (take (d + 1) fs) ≡ later (turned (take d fs)) (frame_at fs d) ++ pending 0 (take d fs)
pending_more fs d h =
    ap (pending 0) (take_more fs d (fresh 0 0) h) ∙ pending_push 0 (take d fs) (frame_at fs d)
    ∙ ap (λ t. later t (frame_at fs d) ++ pending 0 (take d fs)) (zero-add (turned (take d fs)))

-- a child of the node at d was entered: where the walk stands, and what is ahead
module _ (fs : List Frame) (d n from t : ℕ) (within : d + 1 < length fs) (turns : turned (take d fs) + turning (frame_at fs d) ≡ t) where
  at_child : frame_at (set fs (d + 1) (fresh n from)) (d + 1) ≡ fresh n from
  at_child = get_or-set_same fs (d + 1) (fresh n from) (fresh 0 0) within

  way_child : take (d + 1) (set fs (d + 1) (fresh n from)) ≡ take (d + 1) fs
  way_child = take-set fs (d + 1) (fresh n from)

  turns_child : turned (take (d + 1) fs) ≡ t
  turns_child = turned_more fs d (omega arith) ∙ turns

  here_entered : here (set fs (d + 1) (fresh n from)) (d + 1) ≡ node_at n from t
  here_entered = rw (at_child, way_child, turns_child)

  ahead_entered : ahead (set fs (d + 1) (fresh n from)) (d + 1)
      ≡ under (balanced n) from t ++ (later (turned (take d fs)) (frame_at fs d) ++ pending 0 (take d fs))
  ahead_entered = rw (at_child, way_child, turns_child, pending_more fs d (omega arith))

-- what is ahead under a node of n symbols, from 2 up, whose children have l and r of them
module _ (n l r from t : ℕ) (long : 2 ≤ n) (left : l ≡ n - n / 2) (right : r ≡ n / 2) where
  shape : balanced n ≡ node (balanced l) (balanced r)
  shape = balanced_node n long ∙ rw (left, right)

  size_left : leaves (balanced l) ≡ l
  size_left = leaves_balanced l (omega arith)

  size_right : leaves (balanced r) ≡ r
  size_right = leaves_balanced r (omega arith)

  inner_right : under_right (balanced n) from t ≡ node_at r (from + l) (t + 1) ∷ under (balanced r) (from + l) (t + 1)
  inner_right =
      ap (λ s. under_right s from t) shape ∙ ap (λ m. nodes (balanced r) (from + m) (t + 1)) size_left
      ∙ nodes_is (balanced r) (from + l) (t + 1) ∙ ap (λ m. node_at m (from + l) (t + 1) ∷ under (balanced r) (from + l) (t + 1)) size_right

  inner_both : under (balanced n) from t ≡ node_at l from t ∷ (under (balanced l) from t ++ under_right (balanced n) from t)
  inner_both =
      ap (λ s. under s from t) shape
      ∙ ap (λ z. z ++ nodes (balanced r) (from + leaves (balanced l)) (t + 1)) (nodes_is (balanced l) from t ∙ ap (λ m. node_at m from t ∷ under (balanced l) from t) size_left)
      ∙ ap (λ z. node_at l from t ∷ (under (balanced l) from t ++ z)) (sym (ap (λ s. under_right s from t) shape))

-- into the left child
entered_left : (fs : List Frame) (d l : ℕ) → d + 1 < length fs → (frame_at fs d).done ≡ Neither → 2 ≤ (frame_at fs d).len
    → l ≡ (frame_at fs d).len - (frame_at fs d).len / 2
    → ahead fs d ≡ here (set fs (d + 1) (fresh l (frame_at fs d).first)) (d + 1) ∷ ahead (set fs (d + 1) (fresh l (frame_at fs d).first)) (d + 1)
entered_left fs d l within done long left =
    let n = (frame_at fs d).len in
    let from = (frame_at fs d).first in
    let t = turned (take d fs) in
    let rest = pending 0 (take d fs) in
    let turns : t + turning (frame_at fs d) ≡ t = ap (λ x. t + turn_by x) done ∙ add-zero t in
    let before : ahead fs d ≡ under (balanced n) from t ++ rest = ap (λ x. todo_by x (balanced n) from t ++ rest) done in
    let after : ahead (set fs (d + 1) (fresh l from)) (d + 1) ≡ under (balanced l) from t ++ (under_right (balanced n) from t ++ rest) =
    ahead_entered fs d l from t within turns ∙ ap (λ x. under (balanced l) from t ++ (todo_by (more_done x) (balanced n) from t ++ rest)) done in
    before ∙ ap (λ z. z ++ rest) (inner_both n l (n / 2) from t long left refl)
    ∙ ap (λ z. node_at l from t ∷ z) (append_assoc (under (balanced l) from t) (under_right (balanced n) from t) rest ∙ sym after)
    ∙ ap (λ z. z ∷ ahead (set fs (d + 1) (fresh l from)) (d + 1)) (sym (here_entered fs d l from t within turns))

-- into the right child
entered_right : (fs : List Frame) (d l r : ℕ) → d + 1 < length fs → (frame_at fs d).done ≡ Left → 2 ≤ (frame_at fs d).len
    → l ≡ (frame_at fs d).len - (frame_at fs d).len / 2 → r ≡ (frame_at fs d).len / 2
    → ahead fs d ≡ here (set fs (d + 1) (fresh r ((frame_at fs d).first + l))) (d + 1) ∷ ahead (set fs (d + 1) (fresh r ((frame_at fs d).first + l))) (d + 1)
entered_right fs d l r within done long left right =
    let n = (frame_at fs d).len in
    let from = (frame_at fs d).first in
    let t = turned (take d fs) in
    let rest = pending 0 (take d fs) in
    let turns : t + turning (frame_at fs d) ≡ t + 1 = ap (λ x. t + turn_by x) done in
    let before : ahead fs d ≡ under_right (balanced n) from t ++ rest = ap (λ x. todo_by x (balanced n) from t ++ rest) done in
    let after : ahead (set fs (d + 1) (fresh r (from + l))) (d + 1) ≡ under (balanced r) (from + l) (t + 1) ++ rest =
    ahead_entered fs d r (from + l) (t + 1) within turns ∙ ap (λ x. under (balanced r) (from + l) (t + 1) ++ (todo_by (more_done x) (balanced n) from t ++ rest)) done in
    before ∙ ap (λ z. z ++ rest) (inner_right n l r from t long left right) ∙ ap (λ z. node_at r (from + l) (t + 1) ∷ z) (sym after)
    ∙ ap (λ z. z ∷ ahead (set fs (d + 1) (fresh r (from + l))) (d + 1)) (sym (here_entered fs d r (from + l) (t + 1) within turns))

pub kind_inner : (n : ℕ) → kind_of n ≡ Inner → 2 ≤ n
kind_inner n is = grind (arith, nat_tests)

pub kind_leaf : (n : ℕ) → kind_of n ≡ Leaf → n < 2
kind_leaf n is = grind (arith, nat_tests)

-- nothing is under a leaf
todo_by_leaf : (x : Done) (n from t : ℕ) → n < 2 → todo_by x (balanced n) from t ≡ []
todo_by_leaf Neither n from t h = rw (balanced_leaf n h)
todo_by_leaf Left n from t h = rw (balanced_leaf n h)
todo_by_leaf Both n from t h = refl

pub todo_leaf : (t : ℕ) (f : Frame) → f.len < 2 → todo t f ≡ []
todo_leaf t f h = todo_by_leaf f.done f.len f.first t h

-- nor under a node with both children finished
pub todo_both : (t : ℕ) (f : Frame) → f.done ≡ Both → todo t f ≡ []
todo_both t f done = ap (λ x. todo_by x (balanced f.len) f.first t) done

-- an inner node has nodes under it, and so has its right part
pub some_under : (n from t : ℕ) → 2 ≤ n → under (balanced n) from t ≡ [] → ⊥
some_under n from t long none = nil≢cons (sym none ∙ inner_both n (n - n / 2) (n / 2) from t long refl refl)

pub some_right : (n from t : ℕ) → 2 ≤ n → under_right (balanced n) from t ≡ [] → ⊥
some_right n from t long none = nil≢cons (sym none ∙ inner_right n (n - n / 2) (n / 2) from t long refl refl)

-- what an answer of `==` on kinds says of the length
pub inner_by : (n : ℕ) (k : Kind) → k ≡ kind_of n → sameb kinds k Inner ≡ true → 2 ≤ n
inner_by n Leaf is same = absurd (false≢true same)
inner_by n Inner is same = kind_inner n (sym is)

pub leaf_by : (n : ℕ) (k : Kind) → k ≡ kind_of n → sameb kinds k Inner ≡ false → n < 2
leaf_by n Leaf is apart = kind_leaf n (sym is)
leaf_by n Inner is apart = absurd (false≢true (sym apart))

-- and one on the children that are finished, at an inner node
todo_inner : (d : Done) (n from t : ℕ) → 2 ≤ n → More (not (sameb dones d Both)) (todo_by d (balanced n) from t)
todo_inner Neither n from t long = some_under n from t long
todo_inner Left n from t long = some_right n from t long
todo_inner Both n from t long = refl

later_inner : (d : Done) (n from t : ℕ) → 2 ≤ n → More (sameb dones d Neither) (todo_by (more_done d) (balanced n) from t)
later_inner Neither n from t long = some_right n from t long
later_inner Left n from t long = refl
later_inner Both n from t long = refl

pub unfinished_inner : (f : Frame) → 2 ≤ f.len → Unfinished f (not (sameb dones f.done Both))
unfinished_inner f long t = todo_inner f.done f.len f.first t long

pub right_ahead_inner : (f : Frame) → 2 ≤ f.len → RightAhead f (sameb dones f.done Neither)
right_ahead_inner f long t = later_inner f.done f.len f.first t long

append_none : {A : Type 0} (xs ys : List A) → xs ++ ys ≡ [] → (xs ≡ []) × (ys ≡ [])
append_none [] ys none = (refl, none)
append_none (x ∷ xs) ys none = absurd (nil≢cons (sym none))

-- nothing is ahead: neither under the node at hand nor beside the way to it
pub none_here : (fs : List Frame) (d : ℕ) → ahead fs d ≡ [] → todo (turned (take d fs)) (frame_at fs d) ≡ []
none_here fs d none = (append_none (todo (turned (take d fs)) (frame_at fs d)) (pending 0 (take d fs)) none).0

none_beside : (fs : List Frame) (d k : ℕ) → d ≤ length fs → k < d → pending 0 (take d fs) ≡ [] → later (turned (take k fs)) (frame_at fs k) ≡ []
none_beside fs zero k long below none = absurd (omega arith)
none_beside fs (suc d) k long below none =
    let next : d + 1 ≡ suc d = omega arith in
    let parts = append_none (later (turned (take d fs)) (frame_at fs d)) (pending 0 (take d fs))
    (sym (pending_more fs d (omega arith)) ∙ ap (λ m. pending 0 (take m fs)) next ∙ none) in
    ⊎_elim
    (λ same. subst (λ j. later (turned (take j fs)) (frame_at fs j) ≡ []) (sym same) parts.0)
    (λ apart. none_beside fs d k (omega arith) (omega arith) parts.1)
    (cases_eq k d)

pub none_later : (fs : List Frame) (d k : ℕ) → d ≤ length fs → k < d → ahead fs d ≡ [] → later (turned (take k fs)) (frame_at fs k) ≡ []
none_later fs d k long below none =
    none_beside fs d k long below
    (append_none (todo (turned (take d fs)) (frame_at fs d)) (pending 0 (take d fs)) none).1

-- nothing beside one node more of the way
pub none_more : (fs : List Frame) (k : ℕ) → k < length fs → pending 0 (take k fs) ≡ [] → later (turned (take k fs)) (frame_at fs k) ≡ []
    → pending 0 (take (k + 1) fs) ≡ []
none_more fs k within none own = pending_more fs k within ∙ rw (own, none)

-- beside the way lies what its nodes have on their right, and nothing else
beside_none : (fs : List Frame) (t : ℕ) → All (λ f. RightAhead f false) fs → pending t fs ≡ []
beside_none [] t none = refl
beside_none (f ∷ fs) t none =
    rw (beside_none fs (t + turning f) (All-tail (λ g. RightAhead g false) f fs none), All-head (λ g. RightAhead g false) f fs none t)

beside_some : (fs : List Frame) (t k : ℕ) → k < length fs → HoldsAt (λ f. RightAhead f true) fs k → pending t fs ≡ [] → ⊥
beside_some [] t k within some none = absurd (omega arith)
beside_some (f ∷ fs) t zero within some none = some f t (append_none (pending (t + turning f) fs) (later t f) none).1
beside_some (f ∷ fs) t (suc k) within some none = beside_some fs (t + turning f) k (omega arith) some (append_none (pending (t + turning f) fs) (later t f) none).0

-- a node is ahead where one is under the node at hand, and else where one is beside the way to it
pub more_here : (fs : List Frame) (d : ℕ) → Unfinished (frame_at fs d) true → More true (ahead fs d)
more_here fs d some none = some (turned (take d fs)) (append_none (todo (turned (take d fs)) (frame_at fs d)) (pending 0 (take d fs)) none).0

pub more_beside : (fs : List Frame) (d : ℕ) (r : Bool) → Unfinished (frame_at fs d) false
    → MatchBool r ((k : ℕ) × (k < length (take d fs)) × HoldsAt (λ f. RightAhead f true) (take d fs) k)
    (AllWithin (λ f. RightAhead f false) (take d fs) 0 (length (take d fs)))
    → More r (ahead fs d)
more_beside fs d true none beside = λ empty.
    beside_some (take d fs) 0 beside.0 beside.1 beside.2 (append_none (todo (turned (take d fs)) (frame_at fs d)) (pending 0 (take d fs)) empty).1
more_beside fs d false none beside =
    rw (none (turned (take d fs)), beside_none (take d fs) 0 (All-from_all_within (λ f. RightAhead f false) (take d fs) beside))

-- out of a finished node, which leaves what is ahead
left_behind : (fs : List Frame) (d : ℕ) → d + 1 < length fs → todo (turned (take (d + 1) fs)) (frame_at fs (d + 1)) ≡ []
    → ahead fs (d + 1) ≡ ahead (set fs d (one_more (frame_at fs d))) d
left_behind fs d within finished =
    let g = frame_at fs d in
    let at : frame_at (set fs d (one_more g)) d ≡ one_more g = get_or-set_same fs d (one_more g) (fresh 0 0) (omega arith) in
    let after : ahead (set fs d (one_more g)) d ≡ later (turned (take d fs)) g ++ pending 0 (take d fs) =
    rw (at, take-set fs d (one_more g)) in
    rw finished (pending_more fs d (omega arith) ∙ sym after)

-- a child lies less deep than 13 levels, and is small enough for its level
pub fitting_child : (d n l : ℕ) → d < 13 → 2 ≤ n → n ≤ 2 ^ (12 - d) → l ≤ n - n / 2 → (d < 12) × (l ≤ 2 ^ (12 - (d + 1)))
fitting_child d n l shallow long small part =
    ⊎_elim
    (λ less.
    let next : 12 - d ≡ suc (12 - (d + 1)) = omega arith in
    let twice : n ≤ 2 ^ suc (12 - (d + 1)) = subst (λ k. n ≤ 2 ^ k) next small in
    (less, omega arith))
    (λ last.
    let none : 12 - d ≡ 0 = omega arith in
    let one : n ≤ 2 ^ 0 = subst (λ k. n ≤ 2 ^ k) none small in
    absurd (omega arith))
    (cases_lt d 12)

-- a child was entered: what a step promises, from what `enter` does
pub stepped_left : (fs : List Frame) (d l : ℕ) {fs' : List Frame} {d' : ℕ} → d + 1 < length fs → (frame_at fs d).done ≡ Neither → 2 ≤ (frame_at fs d).len
    → l ≡ (frame_at fs d).len - (frame_at fs d).len / 2 → fs' ≡ set fs (d + 1) (fresh l (frame_at fs d).first) → d' ≡ d + 1
    → Stepped fs d fs' d' true
stepped_left fs d l within done long left frames depth = rw (frames, depth) (entered_left fs d l within done long left)

pub stepped_right : (fs : List Frame) (d l r : ℕ) {fs' : List Frame} {d' : ℕ} → d + 1 < length fs → (frame_at fs d).done ≡ Left → 2 ≤ (frame_at fs d).len
    → l ≡ (frame_at fs d).len - (frame_at fs d).len / 2 → r ≡ (frame_at fs d).len / 2 → fs' ≡ set fs (d + 1) (fresh r ((frame_at fs d).first + l)) → d' ≡ d + 1
    → Stepped fs d fs' d' true
stepped_right fs d l r within done long left right frames depth = rw (frames, depth) (entered_right fs d l r within done long left right)

-- a walk that has something ahead, and not under the node at hand, has a parent to go back to
pub at_top : (fs : List Frame) (d : ℕ) → todo (turned (take d fs)) (frame_at fs d) ≡ [] → (ahead fs d ≡ [] → ⊥) → 0 < d
at_top fs zero finished more = absurd (more (rw finished))
at_top fs (suc d) finished more = omega arith

-- a finished node was left: what a step promises, from what `leave` does
pub stepped_out : (fs : List Frame) (d : ℕ) {fs' : List Frame} {d' : ℕ} → todo (turned (take d fs)) (frame_at fs d) ≡ []
    → d < length fs → fs' ≡ set fs d' (one_more (frame_at fs d')) → d' + 1 ≡ d → Stepped fs d fs' d' false
stepped_out fs d {fs'} {d'} finished within frames depth =
    let up : todo (turned (take (d' + 1) fs)) (frame_at fs (d' + 1)) ≡ [] =
    subst (λ k. todo (turned (take k fs)) (frame_at fs k) ≡ []) (sym depth) finished in
    (ap (ahead fs) (sym depth) ∙ left_behind fs d' (omega arith) up ∙ ap (λ z. ahead z d') (sym frames), omega arith)

-- a tree's nodes are its root and all under it
pub nodes_balanced : (n : ℕ) → 1 ≤ n → reading_order n ≡ node_at n 0 0 ∷ under (balanced n) 0 0
nodes_balanced n some = nodes_is (balanced n) 0 0 ∙ ap (λ m. node_at m 0 0 ∷ under (balanced n) 0 0) (leaves_balanced n some)
