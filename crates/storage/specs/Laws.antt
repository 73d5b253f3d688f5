-- The laws of the stored form: contents and accepted bytes correspond one to one, numbers are read where their forms stand,
-- and each refusal names its place. Assumes nothing.
use Rattle.std.specs.Prelude.{◌≡◌, ℕ, ◌+◌, ◌^◌, ◌<◌, ◌⊎◌, List, ◌++◌, length, Ok, Err, ◌≢◌}
use Rattle.std.specs.List.{AllByRecursion}
use Rattle.polar.specs.declared.refusal.Refusal.{Refusal}
use Rattle.polar.specs.declared.refusal.Refusal.TheVariants.{InputEnds, NumberForm, FieldRule, BytesRemain}
use Rattle.storage.specs.Contents.{Content, Sound}
use Rattle.storage.specs.Stored.{number, stored}
use Rattle.storage.specs.Reading.{Read, got, refused, number_at, outcome}

abbrev pub Bytes : List ℕ → Type 0
Bytes bytes = AllByRecursion (λ b. b < 256) bytes

-- what is stored is loaded again
abbrev pub LoadsWhatIsStored : ℕ → Type 0
LoadsWhatIsStored top = (c : Content) → Sound top c → outcome top (stored top c) ≡ Ok c

-- bytes that are accepted are the stored form of what they give, and that can be stored
abbrev pub AcceptsOnlyWhatIsStored : ℕ → Type 0
AcceptsOnlyWhatIsStored top =
    (bytes : List ℕ) (c : Content) → Bytes bytes → outcome top bytes ≡ Ok c → Sound top c × (bytes ≡ stored top c)

-- the bytes are the beginning of a number's form, and not the whole of it
abbrev pub Cut : List ℕ → Type 0
Cut bytes = (n : ℕ) × (tail : List ℕ) × (n < 2 ^ 21) × (0 < length tail) × (number n ≡ bytes ++ tail)

-- the bytes neither begin with a number's form nor are the beginning of one
abbrev pub Formless : List ℕ → Type 0
Formless bytes = (n : ℕ) (rest tail : List ℕ) → n < 2 ^ 21 → bytes ++ tail ≢ number n ++ rest

abbrev pub Says : ℕ → List ℕ → Read ℕ → Type 0
Says at bytes (got n at' rest) = (n < 2 ^ 21) × (bytes ≡ number n ++ rest) × (at' ≡ at + length (number n))
Says at bytes (refused r) = ((r ≡ InputEnds (at + length bytes)) × Cut bytes) ⊎ ((r ≡ NumberForm at) × Formless bytes)

-- a number is read where its form stands, the input ends within a form, or there is no form
abbrev pub NumbersAreRead : Type 0
NumbersAreRead = (at : ℕ) (bytes : List ℕ) → Bytes bytes → Says at bytes (number_at at bytes)

-- a refusal of n bytes of input names their end where they end too soon, and else one of them
pub data Placed (n : ℕ) : Refusal → Type 0 where
  ends : Placed n (InputEnds n)
  form : (place : ℕ) → place < n → Placed n (NumberForm place)
  rule : (place : ℕ) → place < n → Placed n (FieldRule place)
  remain : (place : ℕ) → place < n → Placed n (BytesRemain place)

abbrev pub RefusalsArePlaced : ℕ → Type 0
RefusalsArePlaced top = (bytes : List ℕ) (r : Refusal) → outcome top bytes ≡ Err r → Placed (length bytes) r
