-- What it says that no refusal is due. Assumes nothing.
use Rattle.std.proofs.Common.{◌≡◌, ℕ, Bool, true, false, Some, None, Option, refl, ap, arith}
use Rattle.polar.specs.declared.refusal.Refusal.{Refusal}
use Rattle.polar.specs.Refusals.{refused_if, refused_unless}

pub some_due : (e : Refusal) → Some e ≡ None → ⊥
some_due e h = let z : ◌≡◌ {A = ℕ} 0 1 = cc in omega arith

pub unless_none : (test : Bool) (e : Refusal) (later : Option Refusal) → refused_unless test e later ≡ None → (test ≡ true) × (later ≡ None)
unless_none true e later h = (refl, h)
unless_none false e later h = absurd (some_due e h)

pub if_none : (test : Bool) (e : Refusal) (later : Option Refusal) → refused_if test e later ≡ None → (test ≡ false) × (later ≡ None)
if_none true e later h = absurd (some_due e h)
if_none false e later h = (refl, h)

-- a test that does not refuse leaves what is looked for next
pub unless_passes : (test : Bool) (e : Refusal) (later : Option Refusal) → test ≡ true → refused_unless test e later ≡ later
unless_passes test e later h = ap (λ t. refused_unless t e later) h

pub if_passes : (test : Bool) (e : Refusal) (later : Option Refusal) → test ≡ false → refused_if test e later ≡ later
if_passes test e later h = ap (λ t. refused_if t e later) h
