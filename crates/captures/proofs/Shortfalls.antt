-- How far one edit takes the counts from a word: at most by its charge. Assumes nothing.
use Rattle.std.proofs.Common.{◌≡◌, ℕ, zero, suc, ◌+◌, ◌*◌, ◌<◌, ◌≤◌, Bool, true, false, List, [], ◌∷◌, map, length, get_or, set, ℤ, pos, negsuc, ◌-ℤ◌, nat_abs, refl, arith}
use borrow.Author.Differences.{ints}
use Rattle.soft.specs.Whole.{short_of}
use Rattle.captures.specs.declared.edit.Edit.{Edit}
use Rattle.captures.specs.declared.edit.Edit.TheVariants.{Erase, Count, Level, Weaken}
use Rattle.captures.specs.Tops.{WithinTop}
use Rattle.captures.specs.Captures.{Captured, full, shortfall}
use Rattle.captures.specs.Calls.{allowed, charge, weakened, count_after, edited_at}
use Rattle.captures.specs.Promises.{Charged}
use Rattle.captures.proofs.Counts.{edit_within}

-- a made capture falls short of its own codeword by nothing
pub shortfall_full : (top : ℕ) (word : List Bool) → shortfall top (map (full top) word) word ≡ 0
shortfall_full top [] = refl
shortfall_full top (false ∷ word) = omega (arith, ints, shortfall_full top word)
shortfall_full top (true ∷ word) = omega (arith, ints, shortfall_full top word)

short_most : (top : ℕ) (v : ℤ) (b : Bool) → nat_abs v ≤ top → short_of top v b ≤ 2 * top
short_most top v false h = omega (arith, ints)
short_most top v true h = omega (arith, ints)

short_moved : (top : ℕ) (v w : ℤ) (b : Bool) (n : ℕ) → nat_abs (w -ℤ v) ≤ n → short_of top w b ≤ short_of top v b + n
short_moved top v w false n h = omega (arith, ints)
short_moved top v w true n h = omega (arith, ints)

short_erased : (top : ℕ) (v : ℤ) (b : Bool) → short_of top (pos 0) b ≤ short_of top v b + top
short_erased top v false = omega (arith, ints)
short_erased top v true = omega (arith, ints)

weakened_moves : (v : ℤ) (n : ℕ) → nat_abs (weakened v n -ℤ v) ≤ n
weakened_moves (pos v) n = omega (arith, ints)
weakened_moves (negsuc v) n = omega (arith, ints)

edit_charged : (top k : ℕ) (edit : Edit) (old : ℤ) (b : Bool) → allowed top edit ≡ true → nat_abs old ≤ top
    → short_of top (count_after top k edit old) b ≤ short_of top old b + charge top edit
edit_charged top k Erase old b ok h = short_erased top old b
edit_charged top k (Count v) old b ok h = omega (arith, short_most top v b (edit_within top k (Count v) old ok h))
edit_charged top k (Level x) old b ok h = omega (arith, short_most top (count_after top k (Level x) old) b (edit_within top k (Level x) old ok h))
edit_charged top k (Weaken n) old b ok h = short_moved top old (weakened old n) b n (weakened_moves old n)

-- one count changed
shortfall_set : (top : ℕ) (vs : List ℤ) (word : List Bool) (i : ℕ) (w : ℤ) (n : ℕ) → ((b : Bool) → short_of top w b ≤ short_of top (get_or vs i (pos 0)) b + n)
    → shortfall top (set vs i w) word ≤ shortfall top vs word + n
shortfall_set top [] word i w n h = omega arith
shortfall_set top (v ∷ vs) [] zero w n h = omega arith
shortfall_set top (v ∷ vs) [] (suc i) w n h = omega arith
shortfall_set top (v ∷ vs) (b ∷ word) zero w n h = let near = h b in omega arith
shortfall_set top (v ∷ vs) (b ∷ word) (suc i) w n h = let rest = shortfall_set top vs word i w n h in omega arith

pub charged : (top : ℕ) (before : Captured) (place : ℕ) (edit : Edit) → place < length before.count_row → WithinTop top before.count_row → allowed top edit ≡ true
    → Charged top before edit (edited_at top before place edit)
charged top before place edit here within ok word =
    let old = get_or before.count_row place (pos 0) in
    shortfall_set top before.count_row word place (count_after top before.scale_exponent edit old) (charge top edit)
    (λ b. edit_charged top before.scale_exponent edit old b ok (within place here))
