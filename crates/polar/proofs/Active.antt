-- The laws of marks, and of data at the active leaves. Assumes nothing.
use Rattle.std.proofs.Common.{◌≡◌, ℕ, zero, suc, ◌+◌, ◌<◌, Bool, true, false, cond, List, [], ◌∷◌, ◌++◌, length, get_or, take, drop, sym, refl, ap, ◌∙◌, add-one, arith, take-append-drop, Some, None, Option, Bor, Iter}
use Rattle.std.specs.Option.{MatchOption}
use Rattle.std.proofs.lemmas.List.{take_more, drop_more, nil_from_length}
use Rattle.polar.specs.Words.{xor, plus, trues}
use Rattle.polar.specs.Bytes.{bit, bits}
use Rattle.polar.proofs.Sums.{trues_append}
use Rattle.polar.specs.Marks.{spread, collect, Clear}

pub length_spread : (ms ds : List Bool) → length (spread ms ds) ≡ length ms
length_spread [] ds = refl
length_spread (false ∷ ms) ds = ap suc (length_spread ms ds)
length_spread (true ∷ ms) [] = ap suc (length_spread ms [])
length_spread (true ∷ ms) (d ∷ ds) = ap suc (length_spread ms ds)

pub length_collect : (ms bs : List Bool) → length bs ≡ length ms → length (collect ms bs) ≡ trues ms
length_collect [] bs h = refl
length_collect (m ∷ ms) [] h = absurd (omega arith)
length_collect (true ∷ ms) (b ∷ bs) h = ap suc (length_collect ms bs (omega arith))
length_collect (false ∷ ms) (b ∷ bs) h = length_collect ms bs (omega arith)

pub collect_spread : (ms ds : List Bool) → length ds ≡ trues ms → collect ms (spread ms ds) ≡ ds
collect_spread [] [] h = refl
collect_spread [] (d ∷ ds) h = absurd (omega arith)
collect_spread (false ∷ ms) ds h = collect_spread ms ds h
collect_spread (true ∷ ms) [] h = absurd (omega arith)
collect_spread (true ∷ ms) (d ∷ ds) h = ap (λ z. d ∷ z) (collect_spread ms ds (omega arith))

pub spread_clear : (ms ds : List Bool) → Clear ms (spread ms ds)
spread_clear [] ds = tt
spread_clear (false ∷ ms) ds = (refl, spread_clear ms ds)
spread_clear (true ∷ ms) [] = spread_clear ms []
spread_clear (true ∷ ms) (d ∷ ds) = spread_clear ms ds

-- leaves with 0 at each frozen one are data spread out
pub spread_collect : (ms bs : List Bool) → length bs ≡ length ms → Clear ms bs → spread ms (collect ms bs) ≡ bs
spread_collect [] [] h p = refl
spread_collect [] (b ∷ bs) h p = absurd (omega arith)
spread_collect (m ∷ ms) [] h p = absurd (omega arith)
spread_collect (true ∷ ms) (b ∷ bs) h p = ap (λ z. b ∷ z) (spread_collect ms bs (omega arith) p)
spread_collect (false ∷ ms) (b ∷ bs) h p =
    let head = p.0 in
    let tail = spread_collect ms bs (omega arith) p.1 in
    cc

pub clear_take : (k : ℕ) (ms bs : List Bool) → Clear ms bs → Clear (take k ms) (take k bs)
clear_take zero ms bs p = tt
clear_take (suc k) [] bs p = tt
clear_take (suc k) (m ∷ ms) [] p = tt
clear_take (suc k) (true ∷ ms) (b ∷ bs) p = clear_take k ms bs p
clear_take (suc k) (false ∷ ms) (b ∷ bs) p = (p.0, clear_take k ms bs p.1)

clear_nil : (ms : List Bool) → Clear ms []
clear_nil [] = tt
clear_nil (m ∷ ms) = tt

pub clear_drop : (k : ℕ) (ms bs : List Bool) → Clear ms bs → Clear (drop k ms) (drop k bs)
clear_drop zero ms bs p = p
clear_drop (suc k) [] bs p = tt
clear_drop (suc k) (m ∷ ms) [] p = clear_nil (drop k ms)
clear_drop (suc k) (true ∷ ms) (b ∷ bs) p = clear_drop k ms bs p
clear_drop (suc k) (false ∷ ms) (b ∷ bs) p = clear_drop k ms bs p.1

pub clear_plus : (ms a b : List Bool) → Clear ms a → Clear ms b → Clear ms (plus a b)
clear_plus [] a b p q = tt
clear_plus (m ∷ ms) [] b p q = tt
clear_plus (m ∷ ms) (x ∷ a) [] p q = p
clear_plus (true ∷ ms) (x ∷ a) (y ∷ b) p q = clear_plus ms a b p q
clear_plus (false ∷ ms) (x ∷ a) (y ∷ b) p q =
    let both : xor x y ≡ false = rw (p.0, q.0) in
    (both, clear_plus ms a b p.1 q.1)

-- a walk along the marks: one leaf more, with the data from place k on still to come
module _ (marks : List Bool) (i : ℕ) (within : i < length marks) where
  rest : (m : Bool) → get_or marks i false ≡ m → drop i marks ≡ m ∷ drop (i + 1) marks
  rest m is = drop_more marks i false within ∙ ap (λ b. b ∷ drop (i + 1) marks) is

  pub trues_at_active : get_or marks i false ≡ true → trues (drop i marks) ≡ suc (trues (drop (i + 1) marks))
  trues_at_active is = ap trues (rest true is)

  pub trues_at_frozen : get_or marks i false ≡ false → trues (drop i marks) ≡ trues (drop (i + 1) marks)
  trues_at_frozen is = ap trues (rest false is)

  -- an active leaf takes the next of the data, 0 where there are none
  pub spread_at_active : (o : Option (Bor ℕ)) (s t : Iter ℕ) (label : Bool) → get_or marks i false ≡ true
      → MatchOption o ((length s.rest.now ≡ 0) × (t ≡ s)) (λ x. s.rest.now ≡ x.now ∷ t.rest.now) → MatchOption o (label ≡ false) (λ x. label ≡ bit x.now)
      → label ∷ spread (drop (i + 1) marks) (bits t.rest.now) ≡ spread (drop i marks) (bits s.rest.now)
  spread_at_active None s t label is none first = rw (rest true is, first, none.1, nil_from_length s.rest.now none.0) refl
  spread_at_active (Some x) s t label is some first = rw (rest true is, some, first) refl

  pub spread_at_frozen : (ds : List Bool) → get_or marks i false ≡ false → spread (drop i marks) ds ≡ false ∷ spread (drop (i + 1) marks) ds
  spread_at_frozen ds is = ap (λ ms. spread ms ds) (rest false is)

-- the active leaves among the first i, one leaf more
collect_suc : (ms bs : List Bool) (i : ℕ) → length bs ≡ length ms → i < length ms
    → collect (take (suc i) ms) (take (suc i) bs) ≡ collect (take i ms) (take i bs) ++ cond (get_or ms i false) (get_or bs i false ∷ []) []
collect_suc [] bs i h p = absurd (omega arith)
collect_suc (m ∷ ms) [] i h p = absurd (omega arith)
collect_suc (true ∷ ms) (b ∷ bs) zero h p = refl
collect_suc (false ∷ ms) (b ∷ bs) zero h p = refl
collect_suc (true ∷ ms) (b ∷ bs) (suc i) h p = ap (λ z. b ∷ z) (collect_suc ms bs i (omega arith) (omega arith))
collect_suc (false ∷ ms) (b ∷ bs) (suc i) h p = collect_suc ms bs i (omega arith) (omega arith)

pub collect_more : (ms bs : List Bool) (i : ℕ) (m : Bool) → length bs ≡ length ms → i < length ms → get_or ms i false ≡ m
    → collect (take (i + 1) ms) (take (i + 1) bs) ≡ collect (take i ms) (take i bs) ++ cond m (get_or bs i false ∷ []) []
collect_more ms bs i m h p is =
    rw add-one (collect_suc ms bs i h p) ∙ ap (λ z. collect (take i ms) (take i bs) ++ cond z (get_or bs i false ∷ []) []) is

pub trues_take_more : (ms : List Bool) (i : ℕ) (m : Bool) → i < length ms → get_or ms i false ≡ m → trues (take (i + 1) ms) ≡ trues (take i ms) + cond m 1 0
trues_take_more ms i m p is =
    ap trues (take_more ms i false p) ∙ trues_append (take i ms) (get_or ms i false ∷ []) ∙ ap (λ n. trues (take i ms) + n) (one (get_or ms i false) m is)
  where
    one : (x y : Bool) → x ≡ y → trues (x ∷ []) ≡ cond y 1 0
    one x true e = rw e
    one x false e = rw e

pub trues_take_bound : (ms : List Bool) (i : ℕ) → trues (take i ms) + trues (drop i ms) ≡ trues ms
trues_take_bound ms i = sym (trues_append (take i ms) (drop i ms)) ∙ ap trues (take-append-drop i ms)
