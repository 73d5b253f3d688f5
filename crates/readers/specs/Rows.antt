-- Rows of values and bits, taken together place by place. Assumes nothing.
use Rattle.std.specs.Prelude.{◌≡◌, ℕ, zero, suc, ◌+◌, ◌-◌, ◌<◌, ◌≤◌, Bool, false, List, [], ◌∷◌, ◌++◌, length, get_or, take, drop, set, slice_index_or, slice_set, refl}
use Rattle.std.proofs.Common.{sym, ap, subst, ◌∙◌, arith, length-take}
use Rattle.std.proofs.Math.Nat.{sub-zero}
use borrow.Rule.Slice.PartMut.{post_of}
use Rattle.std.specs.List.{AllByRecursion}
use Rattle.std.proofs.lemmas.List.{length-append, length-drop, take_rest, length-take-le, take_at, drop_at, take_more, take_more_set, get_or_read}
use Rattle.std.proofs.lemmas.List.Elements.{All-from_recursion, recursion_from_All, All-take, All-drop}
use Rattle.polar.specs.Words.{xor, merge, plus}
use Rattle.polar.specs.Labels.{join}
use Rattle.polar.proofs.Merges.{get_or_merge_past, merge_more, merge_past}
use Rattle.readers.specs.SplitReading.{joins}

pub all_read : {A : Type 0} (P : A → Type 0) (xs : List A) (i : ℕ) (x : A) → i < length xs → x ≡ slice_index_or xs i x → AllByRecursion P xs → P x
all_read P xs i x h read all = subst P (sym read) (All-from_recursion P xs all i x h)

-- both parts of a list have what all of it has
pub all_take : {A : Type 0} (P : A → Type 0) (n : ℕ) (xs : List A) → AllByRecursion P xs → AllByRecursion P (take n xs)
all_take P n xs all = recursion_from_All P (take n xs) (All-take P n xs (All-from_recursion P xs all))

pub all_drop : {A : Type 0} (P : A → Type 0) (n : ℕ) (xs : List A) → AllByRecursion P xs → AllByRecursion P (drop n xs)
all_drop P n xs all = recursion_from_All P (drop n xs) (All-drop P n xs (All-from_recursion P xs all))

-- `&s[0..n]` as the checker reads it
pub length_front : {A : Type 0} (n : ℕ) (xs : List A) → n ≤ length xs → length (take (n - 0) xs) ≡ n
length_front n xs h = rw sub-zero (length-take-le n xs h)

pub take_front : {A : Type 0} (n : ℕ) (xs ys : List A) → length xs ≡ n → take (n - 0) (xs ++ ys) ≡ xs
take_front n xs ys long = rw sub-zero (take_at xs ys n long)

-- what is left of a slice `s[n..]` once x is written to `s[0..n]`
pub written_tail : {A : Type 0} (n : ℕ) (x s : List A) → length x ≡ n → n ≤ length s
    → length (take (length (x ++ post_of 0 (n - 0) s) - n) (drop n (x ++ post_of 0 (n - 0) s))) + n ≡ length s
written_tail n x s long h = rw (take_rest, sub-zero) (simp (length-drop, length-append) (omega arith))

-- two children's answers, the right one added to the left one
pub joined_rows : (n : ℕ) (x y b : List Bool) → length x ≡ n → length y ≤ n → b ≡ plus (x ++ y) (drop n (x ++ y)) → b ≡ join x y
joined_rows n x y b long short is = is ∙ rw (drop_at x y n long) (merge_past xor x y y (omega arith))

module _ {A : Type 0} (f : A → A → A) where
  -- a value that has not met its partner yet
  pub merge_read : (xs ys zs : List A) (i : ℕ) (x : A) → zs ≡ merge f xs (take i ys) → x ≡ slice_index_or zs i x → x ≡ slice_index_or xs i x
  merge_read xs ys zs i x is read =
      let few : length (take i ys) ≤ i = simp length-take (omega arith) in
      read ∙ ap (λ l. get_or l i x) is ∙ get_or_merge_past f xs (take i ys) i x few

  -- one more partner
  pub merge_step : (xs ys : List A) (i : ℕ) (x y : A) → i < length xs → i < length ys → x ≡ slice_index_or xs i x → y ≡ slice_index_or ys i y
      → slice_set (merge f xs (take i ys)) i (f x y) ≡ merge f xs (take (i + 1) ys)
  merge_step xs ys i x y p q readx ready =
      let same : get_or ys i x ≡ y = sym (get_or_read ys i y q ready x) in
      sym (merge_more f xs ys i x p q ∙ ap (set (merge f xs (take i ys)) i) (let left = sym readx in cc))

  pub all_merge : (P : A → Type 0) → ((x y : A) → P x → P y → P (f x y)) → (xs ys : List A) → AllByRecursion P xs → AllByRecursion P ys → AllByRecursion P (merge f xs ys)
  all_merge P both [] ys p q = tt
  all_merge P both (x ∷ xs) [] p q = p
  all_merge P both (x ∷ xs) (y ∷ ys) p q = (both x y p.0 q.0, all_merge P both xs ys p.1 q.1)

module _ {K : Type 0} (f : K → K → Bool → K) where
  pub length_joins : (vs ws : List K) (bits : List Bool) → length ws ≤ length vs → length ws ≤ length bits → length (joins f vs ws bits) ≡ length ws
  length_joins [] [] bits p q = refl
  length_joins [] (w ∷ ws) bits p q = absurd (omega arith)
  length_joins (v ∷ vs) [] bits p q = refl
  length_joins (v ∷ vs) (w ∷ ws) [] p q = absurd (omega arith)
  length_joins (v ∷ vs) (w ∷ ws) (b ∷ bits) p q = ap suc (length_joins vs ws bits (omega arith) (omega arith))

  pub get_or_joins : (vs ws : List K) (bits : List Bool) (i : ℕ) (d : K) (c : Bool) → i < length ws → length ws ≤ length vs → length ws ≤ length bits → slice_index_or (joins f vs ws bits) i d ≡ f (slice_index_or vs i d) (slice_index_or ws i d) (slice_index_or bits i c)
  get_or_joins [] [] bits i d c h p q = absurd (omega arith)
  get_or_joins [] (w ∷ ws) bits i d c h p q = absurd (omega arith)
  get_or_joins (v ∷ vs) [] bits i d c h p q = absurd (omega arith)
  get_or_joins (v ∷ vs) (w ∷ ws) [] i d c h p q = absurd (omega arith)
  get_or_joins (v ∷ vs) (w ∷ ws) (b ∷ bits) zero d c h p q = refl
  get_or_joins (v ∷ vs) (w ∷ ws) (b ∷ bits) (suc i) d c h p q = get_or_joins vs ws bits i d c (omega arith) (omega arith) (omega arith)

  joined_there : (vs ws : List K) (bits : List Bool) (i : ℕ) (v w d : K) → i < length ws → length ws ≤ length vs → length ws ≤ length bits → v ≡ slice_index_or vs i v → w ≡ slice_index_or ws i w → f v w (slice_index_or bits i false) ≡ slice_index_or (joins f vs ws bits) i d
  joined_there vs ws bits i v w d within p q readv readw =
      let left = get_or_read vs i v (omega arith) readv d in
      let right = get_or_read ws i w within readw d in
      let there = get_or_joins vs ws bits i d false within p q in
      cc

  pub all_joins : (P Q : K → Type 0) → ((v w : K) (b : Bool) → P v → P w → Q (f v w b)) → (vs ws : List K) (bits : List Bool) → AllByRecursion P vs → AllByRecursion P ws → AllByRecursion Q (joins f vs ws bits)
  all_joins P Q both [] ws bits p q = tt
  all_joins P Q both (v ∷ vs) [] bits p q = tt
  all_joins P Q both (v ∷ vs) (w ∷ ws) [] p q = tt
  all_joins P Q both (v ∷ vs) (w ∷ ws) (b ∷ bits) p q = (both v w b p.0 q.0, all_joins P Q both vs ws bits p.1 q.1)

  -- one more pair joined
  pub joins_more : (vs ws : List K) (bits : List Bool) (out : List K) (i : ℕ) (v w r : K) → length ws ≤ length vs → length ws ≤ length bits → i < length ws → i < length out → v ≡ slice_index_or vs i v → w ≡ slice_index_or ws i w → r ≡ f v w (slice_index_or bits i false) → take i out ≡ take i (joins f vs ws bits) → take (i + 1) (slice_set out i r) ≡ take (i + 1) (joins f vs ws bits)
  joins_more vs ws bits out i v w r p q within room readv readw is before =
      let row = joins f vs ws bits in
      let inside : i < length row = rw (length_joins vs ws bits p q) within in
      let value : r ≡ get_or row i r = is ∙ joined_there vs ws bits i v w r within p q readv readw in
      let more = take_more row i r inside in
      let stored = take_more_set out i r room in
      cc
