-- What is said of keys and their numbers: a number that none of a list is below or above, and a key that
-- has a number of some kind.
use Rattle.std.specs.Prelude.{◌≡◌, ℕ, ℤ, ◌≤ℤ◌, List, All, Some, slice_get}

-- no number of the list is below it, and none is above it
abbrev pub IsLeastOf : List ℤ → ℤ → Type 0
IsLeastOf xs v = All (λ x. v ≤ℤ x) xs

abbrev pub IsGreatestOf : List ℤ → ℤ → Type 0
IsGreatestOf xs v = All (λ x. x ≤ℤ v) xs

-- at some place the key is this one, and the number there is as asked
abbrev pub IsKeyWhere : (ℤ → Type 0) → List ℤ → List ℤ → ℤ → Type 0
IsKeyWhere P keys numbers key =
    (place : ℕ) × (x : ℤ) × (slice_get keys place ≡ Some key) × (slice_get numbers place ≡ Some x) × P x
