-- A number is made a member of a set, or no member. A rule of this project.
use Rattle.std.specs.Prelude.{ℤ, Bool, List, if◌then◌else◌}
use Rattle.cbl_base.specs.Sets.{with_member, without_member}
use Rattle.cbl_base.specs.declared.input.Input.{Input}
use Rattle.cbl_base.specs.declared.input.Input.TheVariants.{Int, Set}

abbrev pub placed : ℤ → Bool → List ℤ → List ℤ
placed v is_in s = if is_in then with_member v s else without_member v s

-- the same of the set that an input is
abbrev pub placed_in : ℤ → Bool → Input → Input
placed_in v is_in (Set s) = Set (placed v is_in s)
placed_in v is_in (Int x) = Int x
