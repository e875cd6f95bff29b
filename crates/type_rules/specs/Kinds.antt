-- What stands where what is asked. From the language.
use Rattle.std.specs.Prelude.{ℕ, Bool, true, false, ◌||◌, ◌==◌, Option, Some, None, if◌then◌else◌}
use Rattle.checked_tree.specs.declared.kind.Kind.{Kind}
use Rattle.checked_tree.specs.declared.kind.Kind.TheVariants as kind
use Rattle.type_rules.specs.declared.kinds.Asked.{Asked}
use Rattle.type_rules.specs.declared.kinds.Asked.TheVariants as asked

-- what stands where a number is asked: a truth value as 1 or 0, a variable as its value
abbrev pub is_number : Kind → Bool
is_number kind.Int = true
is_number kind.Bool = true
is_number kind.Variable = true
is_number k = false

-- a truth value
abbrev pub is_truth : Kind → Bool
is_truth kind.Bool = true
is_truth k = false

-- a set, or a set variable that is read
abbrev pub is_set : Kind → Bool
is_set kind.Set = true
is_set kind.SetVariable = true
is_set k = false

-- a range
abbrev pub is_range : Kind → Bool
is_range kind.Range = true
is_range k = false

-- one dimension of numbers
abbrev pub is_numbers : Kind → Bool
is_numbers kind.Array = true
is_numbers kind.VariableArray = true
is_numbers k = false

-- an incremental variable, or an array of them
abbrev pub is_incremental : Kind → Bool
is_incremental kind.Variable = true
is_incremental kind.VariableArray = true
is_incremental kind.VariableGrid = true
is_incremental kind.SetVariable = true
is_incremental kind.SetVariableArray = true
is_incremental kind.SetVariableGrid = true
is_incremental k = false

-- what is printed
abbrev pub is_printed : Kind → Bool
is_printed kind.Int = true
is_printed kind.Bool = true
is_printed kind.Range = true
is_printed kind.Set = true
is_printed kind.Array = true
is_printed kind.Grid = true
is_printed kind.Variable = true
is_printed kind.VariableArray = true
is_printed kind.VariableGrid = true
is_printed kind.SetVariable = true
is_printed kind.SetVariableArray = true
is_printed kind.SetVariableGrid = true
is_printed k = false

-- the number of a kind, by which kinds are told apart
abbrev pub number_of : Kind → ℕ
number_of kind.Int = 0
number_of kind.Bool = 1
number_of kind.Range = 2
number_of kind.Set = 3
number_of kind.Array = 4
number_of kind.Grid = 5
number_of kind.Variable = 6
number_of kind.VariableArray = 7
number_of kind.VariableGrid = 8
number_of kind.SetVariable = 9
number_of kind.SetVariableArray = 10
number_of kind.SetVariableGrid = 11
number_of kind.Solver = 12
number_of kind.System = 13
number_of kind.Objective = 14
number_of kind.Total = 15
number_of kind.Distribution = 16
number_of kind.Input = 17
number_of kind.Selector = 18
number_of kind.Monitor = 19
number_of kind.Solution = 20
number_of kind.Function = 21
number_of kind.Constraint = 22
number_of kind.Move = 23
number_of kind.Text = 24
number_of kind.Nothing = 25

-- whether two kinds are the same
abbrev pub is_same : Kind → Kind → Bool
is_same one other = number_of one == number_of other

-- whether a kind stands where this is asked
abbrev pub fits : Asked → Kind → Bool
fits asked.Number k = is_number k
fits asked.Truth k = is_truth k
fits asked.Range k = is_range k
fits asked.Set k = is_set k
fits asked.Numbers k = is_numbers k
fits asked.Domain k = is_range k || is_set k
fits asked.Constraint k = is_same k kind.Constraint
fits (asked.Exactly exact) k = is_same exact k

-- what is asked of a start value or an argument of this kind
abbrev pub asked_of : Kind → Asked
asked_of kind.Int = asked.Number
asked_of kind.Bool = asked.Truth
asked_of kind.Range = asked.Range
asked_of kind.Set = asked.Set
asked_of k = asked.Exactly k

-- the kind of a cell of one dimension
abbrev cell_of_one : Kind → Option Kind
cell_of_one kind.Array = Some kind.Int
cell_of_one kind.VariableArray = Some kind.Variable
cell_of_one kind.SetVariableArray = Some kind.SetVariable
cell_of_one k = None

-- the kind of a cell of two dimensions
abbrev cell_of_two : Kind → Option Kind
cell_of_two kind.Grid = Some kind.Int
cell_of_two kind.VariableGrid = Some kind.Variable
cell_of_two kind.SetVariableGrid = Some kind.SetVariable
cell_of_two k = None

-- the kind of a cell, by one index or by two
abbrev pub cell_of : Kind → Bool → Option Kind
cell_of k two = if two then cell_of_two k else cell_of_one k
