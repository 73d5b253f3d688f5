-- Fractions taken to whole numbers. A fraction is a / d, for a d above 0. Assumes nothing.
use Rattle.std.specs.Prelude.{◌≡◌, ℕ, ◌+◌, ◌*◌, ◌/◌, ◌<◌, ◌≤◌, min}

-- the whole number nearest to a / d; of two that are equally near, the larger
abbrev pub nearest : ℕ → ℕ → ℕ
nearest a d = (2 * a + d) / (2 * d)

-- n - 1/2 ≤ a / d < n + 1/2
abbrev pub IsNearest : ℕ → ℕ → ℕ → Type 0
IsNearest a d n = (2 * n * d ≤ 2 * a + d) × (2 * a < 2 * n * d + d)

-- `nearest` gives such a number, and there is no other
abbrev pub RoundingStands : Type 0
RoundingStands = (a d : ℕ) → 0 < d → IsNearest a d (nearest a d) × ((n : ℕ) → IsNearest a d n → n ≡ nearest a d)

-- under the rule p, to clip first and to clip last is the same
abbrev pub ClippingCommutes : (ℕ → ℕ → ℕ) → Type 0
ClippingCommutes p = (t a d : ℕ) → 0 < d → min t (p a d) ≡ p (min a (t * d)) d
