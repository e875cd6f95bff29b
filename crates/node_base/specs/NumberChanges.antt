-- A change of a list of numbers says which number at one place becomes which other. A rule of this
-- project.
use Rattle.std.specs.Prelude.{◌≡◌, ◌≢◌, ℕ, ℤ, List, [], ◌∷◌, fold, slice_get, slice_set, Option, Some, None, Result, Ok, Err}
use Rattle.std.specs.List.{filter_map}
use Rattle.cbl_base.specs.declared.input.Input.{Input}
use Rattle.cbl_base.specs.declared.input.Input.TheVariants.{Int}
use Rattle.cbl_base.specs.declared.input.Change.{Change}
use Rattle.cbl_base.specs.declared.input.Change.TheVariants.{Int as IntChange, Set as SetChange}
use Rattle.cbl_base.specs.declared.faults.RunFault.{RunFault}
use Rattle.cbl_base.specs.declared.faults.NodeFault.{NodeFault}
use Rattle.cbl_base.specs.declared.faults.NodeFault.TheVariants.{Run, NoMemory}
use Rattle.node_base.specs.declared.number_change.NumberChange.{NumberChange}

-- the numbers after a change, and after each of several
abbrev pub after_number_change : List ℤ → NumberChange → List ℤ
after_number_change xs c = slice_set xs c.place c.new

abbrev pub after_number_changes : List ℤ → List NumberChange → List ℤ
after_number_changes xs cs = fold after_number_change xs cs

-- a change of what stands there: at a place below the length, and from the number there
abbrev pub IsNumberChange : List ℤ → NumberChange → Type 0
IsNumberChange xs c = slice_get xs c.place ≡ Some c.old

-- none of the changes is at the place
abbrev pub NoNumberAt : ℕ → List NumberChange → Type 0
NoNumberAt place [] = Unit {0}
NoNumberAt place (c ∷ cs) = (c.place ≢ place) × NoNumberAt place cs

-- each is a change of what stands there, and no two are at one place
abbrev pub AreNumberChanges : List ℤ → List NumberChange → Type 0
AreNumberChanges xs [] = Unit {0}
AreNumberChanges xs (c ∷ cs) = IsNumberChange xs c × NoNumberAt c.place cs × AreNumberChanges xs cs

-- a node's change, where it is one of a number, and all that are
abbrev pub number_change_of : Change → Option NumberChange
number_change_of (IntChange place old new) = Some (record { place = place; old = old; new = new })
number_change_of (SetChange _ _ _) = None

abbrev pub number_changes_of : List Change → List NumberChange
number_changes_of cs = filter_map number_change_of cs

-- an answer where this is the value: the value, its fault, or no memory
abbrev pub IsNumberAnswer : Result ℤ RunFault → Result ℤ NodeFault → Type 0
IsNumberAnswer value (Ok v) = value ≡ Ok v
IsNumberAnswer value (Err (Run fault)) = value ≡ Err fault
IsNumberAnswer value (Err NoMemory) = Unit {0}

-- the answer that is a value, or its fault
abbrev pub answer_of : Result ℤ RunFault → Result ℤ NodeFault
answer_of (Ok v) = Ok v
answer_of (Err fault) = Err (Run fault)

-- an answer of numbers as that of a node
abbrev pub as_answer : Result ℤ NodeFault → Result Input NodeFault
as_answer (Ok v) = Ok (Int v)
as_answer (Err fault) = Err fault
