-- Counts within the top, and what the calls leave of them. Assumes nothing.
use Rattle.std.proofs.Common.{◌≡◌, ℕ, suc, ◌<◌, ◌≤◌, Bool, true, false, List, [], ◌∷◌, map, length, get_or, set, ℤ, pos, negsuc, nat_abs, Some, None, Option, unwrap_or, sym, refl, ap, ◌∙◌, subst, ⊎_elim, arith, length-set, get_or-set_other, get_or-set_same}
use borrow.Author.Differences.{ints}
use lib.Ieee.{Float}
use Rattle.std.proofs.lemmas.Bool.{cases_eq, leb-true}
use Rattle.std.proofs.ByRecursion.{All-get_or}
use Rattle.levels.specs.Level.{count_of}
use Rattle.levels.specs.Rows.{AllWithin}
use Rattle.levels.specs.Rounding.{nearest}
use Rattle.levels.proofs.Rounding.{nearest_rounds, within}
use Rattle.captures.specs.declared.edit.Edit.{Edit}
use Rattle.captures.specs.declared.edit.Edit.TheVariants.{Erase, Count, Level, Weaken}
use Rattle.captures.specs.Tops.{WithinTop}
use Rattle.captures.specs.Captures.{full}
use Rattle.captures.specs.Calls.{allowed, weakened, count_after}

-- the two ways to say that counts are within the top
pub within_from_all : (top : ℕ) (counts : List ℤ) → AllWithin top counts → WithinTop top counts
within_from_all top counts all i h = All-get_or (λ c. nat_abs c ≤ top) counts i (pos 0) h all

pub all_from_within : (top : ℕ) (counts : List ℤ) → WithinTop top counts → AllWithin top counts
all_from_within top [] h = tt
all_from_within top (v ∷ counts) h = (h 0 (omega arith), all_from_within top counts (λ i p. h (suc i) (omega arith)))

-- the counts that a codeword is made with
pub full_within : (top : ℕ) (word : List Bool) → AllWithin top (map (full top) word)
full_within top [] = tt
full_within top (true ∷ word) = (omega (arith, ints), full_within top word)
full_within top (false ∷ word) = (omega arith, full_within top word)

-- one count changed
pub within_set : (top : ℕ) (counts : List ℤ) (place : ℕ) (v : ℤ) → place < length counts → WithinTop top counts → nat_abs v ≤ top → WithinTop top (set counts place v)
within_set top counts place v within all new i h =
    ⊎_elim
    (λ same. subst (λ w. nat_abs w ≤ top) (sym (ap (λ k. get_or (set counts place v) k (pos 0)) same ∙ get_or-set_same counts place v (pos 0) within)) new)
    (λ apart. subst (λ w. nat_abs w ≤ top) (sym (get_or-set_other counts place i v (pos 0) apart)) (all i (omega (arith, length-set counts place v))))
    (cases_eq i place)

-- ---- weakening

pub weakened_within : (v : ℤ) (n top : ℕ) → nat_abs v ≤ top → nat_abs (weakened v n) ≤ top
weakened_within (pos v) n top h = omega arith
weakened_within (negsuc v) n top h = omega (arith, ints)

-- ---- what an edit leaves

level_within : (top k : ℕ) (x : Float) (old : ℤ) (o : Option ℤ) → count_of top k x ≡ o → nat_abs old ≤ top → nat_abs (unwrap_or o old) ≤ top
level_within top k x old None is h = h
level_within top k x old (Some c) is h = within nearest nearest_rounds top k x c is

pub edit_within : (top k : ℕ) (edit : Edit) (old : ℤ) → allowed top edit ≡ true → nat_abs old ≤ top → nat_abs (count_after top k edit old) ≤ top
edit_within top k Erase old ok h = omega arith
edit_within top k (Count v) old ok h = leb-true (nat_abs v) top ok
edit_within top k (Level x) old ok h = level_within top k x old (count_of top k x) refl h
edit_within top k (Weaken n) old ok h = weakened_within old n top h
