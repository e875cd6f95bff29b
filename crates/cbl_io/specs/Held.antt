-- What files hold: the bytes of each name.
use Rattle.std.specs.Prelude.{◌≡◌, ◌+◌, ℕ, List, Option, Some, None, take}
use Rattle.std.specs.Ordering.{nat_cmp}
use Rattle.std.specs.Cmp.Lexicographic.{slice_cmp}
use Rattle.std.specs.FinMap as map

abbrev pub Held : Type 0
Held = map.FinMap (slice_cmp nat_cmp) (List ℕ)

-- where it is told what is held, the name is held, and these are its first bytes, at most one more
-- than `most`
abbrev pub IsRead : Option Held → List ℕ → ℕ → List ℕ → Type 0
IsRead None name most bytes = Unit {0}
IsRead (Some held) name most bytes = (whole : List ℕ) × (map.get held name ≡ Some whole) × (bytes ≡ take (most + 1) whole)
