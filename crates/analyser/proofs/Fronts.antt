-- What `write_front` may ask for and leaves, where a chain proof says which items come. Assumes nothing.
use Rattle.std.proofs.Common.{◌≡◌, ℕ, ◌≤◌, List, ◌++◌, length, drop, Option, sym, ap, ◌∙◌, subst, refl, None, arith, map-id, length-take}
use Rattle.std.proofs.lemmas.List.{length-map}
use Rattle.std.specs.Iterator.{Yields}
use Rattle.std.specs.Iterator.Runs.{YieldsRun, EachRunFrom, WholeRun}
use Rattle.std.proofs.lemmas.Iterator.{YieldsList}
use Rattle.std.proofs.lemmas.Iterator.Consumers.{YieldsList-so_far, YieldsList-end}

pub front_room : {S A B : Type 0} {steps : S → Option A → S → Type 0} {v : A → B} {s : S} {all : List B} (room : ℕ)
    → YieldsList steps v s all → length all ≤ room → EachRunFrom steps s (λ p. p.len ≤ room)
unfolding YieldsRun
front_room {S} {A} {B} {steps} {v} {s} {all} room e enough = λ p _ at.
    let far = YieldsList-so_far e p.items p.gave.0.0 (subst (λ u. Yields steps u p.items p.gave.0.0) at p.gave.0.1) in
    omega (arith, p.long, ap length far, length-map p.items v, length-take (length p.items) all)

pub front_items : {S A : Type 0} {steps : S → Option A → S → Type 0} {s : S} {all : List A} (n : ℕ) (old new : List A)
    → YieldsList steps (λ x. x) s all → WholeRun steps s (λ p. (n ≡ p.len) × (new ≡ p.items ++ drop p.len old)) → new ≡ all ++ drop (length all) old
unfolding YieldsRun
front_items {steps = steps} {all = all} n old new e w =
    let p = w.0 in
    let ended = p.gave.0.2 w.2 in
    let whole = YieldsList-end e p.items p.gave.0.0 (subst (λ u. Yields steps u p.items p.gave.0.0) w.1 p.gave.0.1) None ended.0 refl ended.1 in
    let same : p.items ≡ all = sym (map-id p.items) ∙ whole.0 in
    w.3.1 ∙ rw (p.long, same) refl
