-- An input of a node is a number or a set of numbers; a list of inputs has a list of kinds, and
-- where all are numbers, a list of numbers. A rule of this project.
use Rattle.std.specs.Prelude.{ℤ, pos, Bool, true, false, List, [], map}
use Rattle.std.specs.List.{list_all}
use Rattle.cbl_base.specs.declared.input.Input.{Input}
use Rattle.cbl_base.specs.declared.input.Input.TheVariants.{Int, Set}

-- what kind an input may be of
pub data InputKind : Type 0 where
  number_kind : InputKind
  set_kind : InputKind

-- the kind of an input, and the kinds of a list of them
abbrev pub kind_of : Input → InputKind
kind_of (Int _) = number_kind
kind_of (Set _) = set_kind

abbrev pub kinds_of : List Input → List InputKind
kinds_of inputs = map kind_of inputs

-- whether a kind is that of numbers, and whether all are
abbrev pub is_number_kind : InputKind → Bool
is_number_kind number_kind = true
is_number_kind set_kind = false

abbrev pub all_numbers : List InputKind → Bool
all_numbers kinds = list_all is_number_kind kinds

-- the same of sets
abbrev pub is_set_kind : InputKind → Bool
is_set_kind number_kind = false
is_set_kind set_kind = true

abbrev pub all_sets : List InputKind → Bool
all_sets kinds = list_all is_set_kind kinds

-- the number, 0 for a set, and the numbers of a list of inputs
abbrev pub number_of : Input → ℤ
number_of (Int x) = x
number_of (Set _) = pos 0

abbrev pub numbers_of : List Input → List ℤ
numbers_of inputs = map number_of inputs

-- the members of a set, none for a number
abbrev pub members_of : Input → List ℤ
members_of (Int _) = []
members_of (Set s) = s

-- numbers as inputs
abbrev pub as_inputs : List ℤ → List Input
as_inputs xs = map Int xs
