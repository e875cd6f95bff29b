-- What changes make of a number, of a set, and of whether a number is a member, where the changes are
-- those of one number and one set. A rule of this project.
use Rattle.std.specs.Prelude.{ℤ, Bool, not, ◌&&◌, ◌||◌, List, fold}
use Rattle.cbl_base.specs.Sets.{is_member, with_members, without_members}
use Rattle.cbl_base.specs.declared.input.Change.{Change}
use Rattle.cbl_base.specs.declared.input.Change.TheVariants.{Int as IntChange, Set as SetChange}

-- the number after a change, and after each of several
abbrev pub number_after_one : ℤ → Change → ℤ
number_after_one x (IntChange place old new) = new
number_after_one x (SetChange place added removed) = x

abbrev pub number_after : ℤ → List Change → ℤ
number_after x changes = fold number_after_one x changes

-- the set
abbrev pub set_after_one : List ℤ → Change → List ℤ
set_after_one s (IntChange place old new) = s
set_after_one s (SetChange place added removed) = without_members removed (with_members added s)

abbrev pub set_after : List ℤ → List Change → List ℤ
set_after s changes = fold set_after_one s changes

-- whether the number is a member
abbrev pub is_in_after_one : ℤ → Bool → Change → Bool
is_in_after_one v is_in (IntChange place old new) = is_in
is_in_after_one v is_in (SetChange place added removed) = not (is_member v removed) && (is_member v added || is_in)

abbrev pub is_in_after : ℤ → Bool → List Change → Bool
is_in_after v is_in changes = fold (is_in_after_one v) is_in changes
