-- Which number stands at which place of a list, as pairs of a number and a place, and the places at which
-- one number stands. A rule of this project.
use Rattle.std.specs.Prelude.{◌≡◌, ℕ, ℤ, Bool, false, List, Option, Some, None, slice_get}
use Rattle.std.specs.BTreeSet.{BTreeSet, contains}
use Rattle.std.specs.declared.cmp.Ordering.{Ordering}
use Rattle.std.specs.Ordering.{int_cmp, int_eq, nat_cmp, ordering_then}

-- whether this is the number
abbrev pub is_number : Option ℤ → ℤ → Bool
is_number (Some x) v = int_eq x v
is_number None v = false

-- whether the number stands at the place
abbrev pub stands_at : List ℤ → ℤ → ℕ → Bool
stands_at xs v place = is_number (slice_get xs place) v

-- pairs are in the order of their numbers, and those of one number in the order of their places
abbrev pub pair_cmp : ℤ × ℕ → ℤ × ℕ → Ordering
pair_cmp a b = ordering_then (int_cmp a.0 b.0) (nat_cmp a.1 b.1)

-- these are the pairs of the list
abbrev pub IsIndexOf : BTreeSet (ℤ × ℕ) → List ℤ → Type 0
IsIndexOf index xs = (v : ℤ) (place : ℕ) → contains pair_cmp index (v, place) ≡ stands_at xs v place

-- these are the places of the number in the list
abbrev pub ArePlacesOf : ℤ → List ℤ → BTreeSet ℕ → Type 0
ArePlacesOf v xs places = (place : ℕ) → contains nat_cmp places place ≡ stands_at xs v place
