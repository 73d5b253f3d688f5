-- Whole runs of a walk: the k-th answer is the k-th node in reading order. Assumes nothing.
use Rattle.std.proofs.Common.{◌≡◌, ℕ, zero, suc, List, [], ◌∷◌, length, drop, false, subst, Some, None, Option, refl, ap, add-one, ◌∙◌}
use Rattle.std.specs.List.{slice_get}
use Rattle.std.proofs.lemmas.List.{drop-drop}
use Rattle.std.specs.Iterator.{YieldsFirst}
use Rattle.std.specs.Iterator.Adapters.{chain_first, chain_second, chain_first_done, chain_second_done, chain_steps, once_item, once_steps}
use Rattle.std.specs.declared.iter.Chain.{Chain}
use Rattle.std.specs.declared.iter.Once.{Once}
use Rattle.std.proofs.lemmas.Iterator.{YieldsList}
use Rattle.std.proofs.lemmas.Iterator.Adapters.{YieldsList-from_once}
use Rattle.std.proofs.lemmas.Iterator.Consumers.{YieldsList-from_chain, YieldsList-from_first}
use Rattle.polar.specs.declared.frame.Node.{Node}
use Rattle.polar.specs.declared.walk.Walk.{Walk}
use Rattle.polar.specs.Preorder.{reading_order}
use Rattle.polar.specs.Walks.{current, remaining, Begun, Moved, Run, new, move, ReadingOrder}

nth_drop : {A : Type 0} (k : ℕ) (xs : List A) → slice_get (drop k xs) 0 ≡ slice_get xs k
nth_drop zero xs = refl
nth_drop (suc k) [] = refl
nth_drop (suc k) (x ∷ xs) = nth_drop k xs

-- a move takes the first of the remaining nodes away, and answers it
moved_on : (w w' : Walk) (answer : Option Node) → Moved w answer w' → (remaining w' ≡ drop 1 (remaining w)) × (answer ≡ slice_get (remaining w) 0)
moved_on w w' None stays = let same : remaining w' ≡ [] = ap remaining stays.1 ∙ stays.0 in (rw stays.0 same, rw stays.0)
moved_on w w' (Some n) enters = (rw enters.0, rw enters.0)

left_over : {n : ℕ} {answers : List (Option Node)} {w : Walk} → Run n answers w → remaining w ≡ drop (suc (length answers)) (reading_order n)
left_over (new begun) = ap (drop 1) begun
left_over {n} (move {answers} {w} {w'} {answer} run moved) =
    (moved_on w w' answer moved).0 ∙ ap (drop 1) (left_over run) ∙ drop-drop 1 (suc (length answers)) (reading_order n) ∙ rw add-one

pub reads_in_order : ReadingOrder
reads_in_order n answer answers w' (move {w = w} run moved) =
    (moved_on w w' answer moved).1 ∙ ap (λ ns. slice_get ns 0) (left_over run) ∙ nth_drop (suc (length answers)) (reading_order n)

-- the root, and then what a new walk yields
pub from_root : (n : ℕ) (walk : Walk) {s : Chain (Once Node) Walk} → Begun n walk → once_item (chain_first s) ≡ Some (current walk) → chain_second s ≡ walk
    → chain_first_done s ≡ false → chain_second_done s ≡ false
    → YieldsList (chain_steps once_steps (YieldsFirst remaining)) (λ x. x) s (reading_order n)
from_root n walk {s} begun root rest first second =
    subst (YieldsList (chain_steps once_steps (YieldsFirst remaining)) (λ x. x) s) begun
    (YieldsList-from_chain (YieldsList-from_once (Some (current walk)) root) (YieldsList-from_first (λ x. x) remaining (remaining walk) (ap remaining rest)) first second)
