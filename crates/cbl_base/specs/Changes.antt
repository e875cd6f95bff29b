-- A change says how the input at one place changes: a number becomes another, a set gets members
-- that it lacks and loses members that it has. A rule of this project.
use Rattle.std.specs.Prelude.{◌≡◌, ◌≢◌, ℕ, ℤ, pos, true, false, List, [], ◌∷◌, fold, slice_get, slice_index_or, slice_set, Option, Some, None}
use Rattle.cbl_base.specs.Sets.{is_member, with_members, without_members}
use Rattle.cbl_base.specs.declared.input.Input.{Input}
use Rattle.cbl_base.specs.declared.input.Input.TheVariants.{Int, Set}
use Rattle.cbl_base.specs.declared.input.Change.{Change}
use Rattle.cbl_base.specs.declared.input.Change.TheVariants.{Int as IntChange, Set as SetChange}

-- the place of a change
abbrev pub place_of : Change → ℕ
place_of (IntChange place _ _) = place
place_of (SetChange place _ _) = place

-- a set with members added and others removed
abbrev pub edited : List ℤ → List ℤ → Input → Input
edited added removed (Set s) = Set (without_members removed (with_members added s))
edited added removed (Int x) = Int x

-- the inputs after a change, and after each of several
abbrev pub after_change : List Input → Change → List Input
after_change inputs (IntChange place _ new) = slice_set inputs place (Int new)
after_change inputs (SetChange place added removed) = slice_set inputs place (edited added removed (slice_index_or inputs place (Int (pos 0))))

abbrev pub after_changes : List Input → List Change → List Input
after_changes inputs changes = fold after_change inputs changes

-- each of these is one of the members, and none of them is
abbrev pub AreMembers : List ℤ → List ℤ → Type 0
AreMembers [] s = Unit {0}
AreMembers (v ∷ vs) s = (is_member v s ≡ true) × AreMembers vs s

abbrev pub AreNoMembers : List ℤ → List ℤ → Type 0
AreNoMembers [] s = Unit {0}
AreNoMembers (v ∷ vs) s = (is_member v s ≡ false) × AreNoMembers vs s

-- there is a set, it lacks each added member, and it has each removed one
abbrev pub IsEdit : List ℤ → List ℤ → Option Input → Type 0
IsEdit added removed (Some (Set s)) = AreNoMembers added s × AreMembers removed s
IsEdit added removed (Some (Int _)) = ⊥
IsEdit added removed None = ⊥

-- a change of what stands there: at a place below the length, and from the number or the set there
abbrev pub IsChange : List Input → Change → Type 0
IsChange inputs (IntChange place old _) = slice_get inputs place ≡ Some (Int old)
IsChange inputs (SetChange place added removed) = IsEdit added removed (slice_get inputs place)

-- none of the changes is at the place
abbrev pub NoneAt : ℕ → List Change → Type 0
NoneAt place [] = Unit {0}
NoneAt place (c ∷ cs) = (place_of c ≢ place) × NoneAt place cs

-- each is a change of what stands there, and no two are at one place
abbrev pub AreChanges : List Input → List Change → Type 0
AreChanges inputs [] = Unit {0}
AreChanges inputs (c ∷ cs) = IsChange inputs c × NoneAt (place_of c) cs × AreChanges inputs cs
