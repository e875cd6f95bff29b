-- The methods, and the functions of the language: one row for each. From the language.
use Rattle.std.specs.Prelude.{ℕ, Bool, true, false, ◌&&◌, List, [], ◌∷◌, codes, position, slice_get, Option, Some, None, if◌then◌else◌}
use Rattle.std.specs.Str.{bytes_eq}
use Rattle.checked_tree.specs.declared.kind.Kind.{Kind}
use Rattle.checked_tree.specs.declared.kind.Kind.TheVariants as kind
use Rattle.type_rules.specs.declared.kinds.Asked.TheVariants as asked
use Rattle.type_rules.specs.declared.kinds.Want.{Want}
use Rattle.checked_tree.specs.declared.expressions.Builtin.{Builtin}
use Rattle.checked_tree.specs.declared.expressions.Builtin.TheVariants as builtins
use Rattle.checked_tree.specs.declared.expressions.Method.{Method}
use Rattle.checked_tree.specs.declared.expressions.Method.TheVariants as methods
use Rattle.type_rules.specs.declared.rows.Row.{Row}
use Rattle.type_rules.specs.declared.rows.Writes.{Writes}
use Rattle.type_rules.specs.declared.rows.Writes.TheVariants as writes
use Rattle.type_rules.specs.Kinds.{is_same, is_set}

-- an argument that is a number
abbrev pub number : Want
number = record { asked = asked.Number; fixed = false }

-- an argument that is a constraint
abbrev pub constraint : Want
constraint = record { asked = asked.Constraint; fixed = false }

-- an argument that is a variable
abbrev pub variable : Want
variable = record { asked = asked.Exactly kind.Variable; fixed = false }

-- an argument that is an array of numbers
abbrev pub numbers : Want
numbers = record { asked = asked.Numbers; fixed = false }

-- an argument that is a set
abbrev pub a_set : Want
a_set = record { asked = asked.Set; fixed = false }

-- an argument that is a string
abbrev pub a_text : Want
a_text = record { asked = asked.Exactly kind.Text; fixed = false }

-- arguments that are kept as fields of a constraint
abbrev pub fixed_numbers : Want
fixed_numbers = record { asked = asked.Numbers; fixed = true }

-- a set that is kept
abbrev pub fixed_set : Want
fixed_set = record { asked = asked.Set; fixed = true }

-- a number that is kept
abbrev pub fixed_number : Want
fixed_number = record { asked = asked.Number; fixed = true }

-- what gives a value and does nothing else, with so many arguments at least
abbrev pub giving : Kind → ℕ → Row
giving k n = record { least = n; result = k; impure = false; writes = writes.Nothing; left_out = false; forbidden = false }

-- the same of what is left out of terms
abbrev pub held_out : Kind → ℕ → Row
held_out k n = record { least = n; result = k; impure = false; writes = writes.Nothing; left_out = true; forbidden = false }

-- what writes the object that it is called on
abbrev pub acting : Kind → ℕ → Row
acting k n = record { least = n; result = k; impure = true; writes = writes.Object; left_out = false; forbidden = false }

-- what writes the solver of the solution that it is called on
abbrev pub restoring : Kind → ℕ → Row
restoring k n = record { least = n; result = k; impure = true; writes = writes.Solver; left_out = false; forbidden = false }

-- what draws, or asks a monitor, and writes nothing
abbrev pub asking : Kind → ℕ → Row
asking k n = record { least = n; result = k; impure = true; writes = writes.Nothing; left_out = false; forbidden = false }

-- what reads data, which no `parall` does
abbrev pub reading : Kind → ℕ → Row
reading k n = record { least = n; result = k; impure = true; writes = writes.Nothing; left_out = false; forbidden = true }

-- what writes the name that it is called on
abbrev pub changing : Kind → ℕ → Row
changing k n = record { least = n; result = k; impure = true; writes = writes.Name; left_out = false; forbidden = false }

-- what each method gives, does, and takes at least
abbrev pub method_row : Method → Row
method_row methods.Close = acting kind.Nothing 0
method_row methods.Post = acting kind.Nothing 1
method_row methods.Violations = held_out kind.Int 0
method_row methods.SystemAssignDelta = held_out kind.Int 2
method_row methods.SystemSwapDelta = held_out kind.Int 2
method_row methods.ObjectiveAssignDelta = held_out kind.Int 2
method_row methods.ObjectiveSwapDelta = held_out kind.Int 2
method_row methods.ObjectiveValue = held_out kind.Int 0
method_row methods.ObjectiveEvaluation = held_out kind.Int 0
method_row methods.PostPart = acting kind.Nothing 1
method_row methods.Draw = asking kind.Int 0
method_row methods.ReadInt = reading kind.Int 0
method_row methods.HasMove = giving kind.Bool 0
method_row methods.GetMove = giving kind.Move 0
method_row methods.Report = asking kind.Bool 2
method_row methods.BestValue = asking kind.Int 0
method_row methods.HasBest = asking kind.Bool 0
method_row methods.CopyBest = asking kind.Array 0
method_row methods.Stop = asking kind.Nothing 0
method_row methods.IsStopped = asking kind.Bool 0
method_row methods.Restore = restoring kind.Nothing 0
method_row methods.Low = giving kind.Int 0
method_row methods.Up = giving kind.Int 0
method_row methods.RangeSize = giving kind.Int 0
method_row methods.Insert = changing kind.Nothing 1
method_row methods.Delete = changing kind.Nothing 1
method_row methods.Contains = giving kind.Bool 1
method_row methods.SetSize = giving kind.Int 0
method_row methods.ArraySize = giving kind.Int 0
method_row methods.Domain = giving kind.Range 0

-- what each method takes at most
abbrev pub method_wants : Method → List Want
method_wants methods.Close = []
method_wants methods.Post = constraint ∷ number ∷ []
method_wants methods.Violations = variable ∷ []
method_wants methods.SystemAssignDelta = variable ∷ number ∷ []
method_wants methods.SystemSwapDelta = variable ∷ variable ∷ []
method_wants methods.ObjectiveAssignDelta = variable ∷ number ∷ []
method_wants methods.ObjectiveSwapDelta = variable ∷ variable ∷ []
method_wants methods.ObjectiveValue = []
method_wants methods.ObjectiveEvaluation = []
method_wants methods.PostPart = number ∷ number ∷ []
method_wants methods.Draw = []
method_wants methods.ReadInt = []
method_wants methods.HasMove = []
method_wants methods.GetMove = []
method_wants methods.Report = number ∷ numbers ∷ []
method_wants methods.BestValue = []
method_wants methods.HasBest = []
method_wants methods.CopyBest = []
method_wants methods.Stop = []
method_wants methods.IsStopped = []
method_wants methods.Restore = []
method_wants methods.Low = []
method_wants methods.Up = []
method_wants methods.RangeSize = []
method_wants methods.Insert = number ∷ []
method_wants methods.Delete = number ∷ []
method_wants methods.Contains = number ∷ []
method_wants methods.SetSize = []
method_wants methods.ArraySize = []
method_wants methods.Domain = []

-- how each method is spelled
abbrev pub method_spelling : Method → List ℕ
method_spelling methods.Close = codes "close"
method_spelling methods.Post = codes "post"
method_spelling methods.Violations = codes "violations"
method_spelling methods.SystemAssignDelta = codes "getAssignDelta"
method_spelling methods.SystemSwapDelta = codes "getSwapDelta"
method_spelling methods.ObjectiveAssignDelta = codes "getAssignDelta"
method_spelling methods.ObjectiveSwapDelta = codes "getSwapDelta"
method_spelling methods.ObjectiveValue = codes "value"
method_spelling methods.ObjectiveEvaluation = codes "evaluation"
method_spelling methods.PostPart = codes "post"
method_spelling methods.Draw = codes "get"
method_spelling methods.ReadInt = codes "getInt"
method_spelling methods.HasMove = codes "hasMove"
method_spelling methods.GetMove = codes "getMove"
method_spelling methods.Report = codes "report"
method_spelling methods.BestValue = codes "value"
method_spelling methods.HasBest = codes "has"
method_spelling methods.CopyBest = codes "copy"
method_spelling methods.Stop = codes "stop"
method_spelling methods.IsStopped = codes "stopped"
method_spelling methods.Restore = codes "restore"
method_spelling methods.Low = codes "getLow"
method_spelling methods.Up = codes "getUp"
method_spelling methods.RangeSize = codes "getSize"
method_spelling methods.Insert = codes "insert"
method_spelling methods.Delete = codes "delete"
method_spelling methods.Contains = codes "contains"
method_spelling methods.SetSize = codes "getSize"
method_spelling methods.ArraySize = codes "getSize"
method_spelling methods.Domain = codes "getDomain"

-- whether it is an objective, or a sum of them
abbrev pub is_objective : Kind → Bool
is_objective kind.Objective = true
is_objective kind.Total = true
is_objective k = false

-- whether it is an array of any kind
abbrev pub is_array : Kind → Bool
is_array kind.Array = true
is_array kind.Grid = true
is_array kind.VariableArray = true
is_array kind.VariableGrid = true
is_array kind.SetVariableArray = true
is_array kind.SetVariableGrid = true
is_array k = false

-- what each method is called on
abbrev pub receives : Method → Kind → Bool
receives methods.Close k = is_same k kind.Solver
receives methods.Post k = is_same k kind.System
receives methods.Violations k = is_same k kind.System
receives methods.SystemAssignDelta k = is_same k kind.System
receives methods.SystemSwapDelta k = is_same k kind.System
receives methods.ObjectiveAssignDelta k = is_objective k
receives methods.ObjectiveSwapDelta k = is_objective k
receives methods.ObjectiveValue k = is_objective k
receives methods.ObjectiveEvaluation k = is_objective k
receives methods.PostPart k = is_same k kind.Total
receives methods.Draw k = is_same k kind.Distribution
receives methods.ReadInt k = is_same k kind.Input
receives methods.HasMove k = is_same k kind.Selector
receives methods.GetMove k = is_same k kind.Selector
receives methods.Report k = is_same k kind.Monitor
receives methods.BestValue k = is_same k kind.Monitor
receives methods.HasBest k = is_same k kind.Monitor
receives methods.CopyBest k = is_same k kind.Monitor
receives methods.Stop k = is_same k kind.Monitor
receives methods.IsStopped k = is_same k kind.Monitor
receives methods.Restore k = is_same k kind.Solution
receives methods.Low k = is_same k kind.Range
receives methods.Up k = is_same k kind.Range
receives methods.RangeSize k = is_same k kind.Range
receives methods.Insert k = is_set k
receives methods.Delete k = is_set k
receives methods.Contains k = is_set k
receives methods.SetSize k = is_set k
receives methods.ArraySize k = is_array k
receives methods.Domain k = is_same k kind.Variable

-- what each function of the language gives, and takes at least
abbrev pub builtin_row : Builtin → Row
builtin_row builtins.Abs = giving kind.Int 1
builtin_row builtins.Min = giving kind.Int 2
builtin_row builtins.Max = giving kind.Int 2
builtin_row builtins.Count = giving kind.Int 2
builtin_row builtins.Card = giving kind.Int 1
builtin_row builtins.Member = giving kind.Bool 2
builtin_row builtins.Union = giving kind.Set 2
builtin_row builtins.Inter = giving kind.Set 2
builtin_row builtins.Minus = giving kind.Set 2
builtin_row builtins.AllDifferent = giving kind.Constraint 1
builtin_row builtins.AtMost = giving kind.Constraint 2
builtin_row builtins.AtLeast = giving kind.Constraint 2
builtin_row builtins.Exactly = giving kind.Constraint 2
builtin_row builtins.Knapsack = giving kind.Constraint 3
builtin_row builtins.MultiKnapsack = giving kind.Constraint 3
builtin_row builtins.Sequence = giving kind.Constraint 4
builtin_row builtins.User = giving kind.Constraint 2

-- what each function of the language takes at most
abbrev pub builtin_wants : Builtin → List Want
builtin_wants builtins.Abs = number ∷ []
builtin_wants builtins.Min = number ∷ number ∷ []
builtin_wants builtins.Max = number ∷ number ∷ []
builtin_wants builtins.Count = numbers ∷ number ∷ []
builtin_wants builtins.Card = a_set ∷ []
builtin_wants builtins.Member = number ∷ a_set ∷ []
builtin_wants builtins.Union = a_set ∷ a_set ∷ []
builtin_wants builtins.Inter = a_set ∷ a_set ∷ []
builtin_wants builtins.Minus = a_set ∷ a_set ∷ []
builtin_wants builtins.AllDifferent = numbers ∷ []
builtin_wants builtins.AtMost = fixed_numbers ∷ numbers ∷ []
builtin_wants builtins.AtLeast = fixed_numbers ∷ numbers ∷ []
builtin_wants builtins.Exactly = fixed_numbers ∷ numbers ∷ []
builtin_wants builtins.Knapsack = fixed_numbers ∷ numbers ∷ fixed_number ∷ []
builtin_wants builtins.MultiKnapsack = numbers ∷ fixed_numbers ∷ fixed_numbers ∷ []
builtin_wants builtins.Sequence = numbers ∷ fixed_set ∷ fixed_number ∷ fixed_number ∷ []
builtin_wants builtins.User = a_text ∷ numbers ∷ []

-- how each function of the language is spelled
abbrev pub builtin_spelling : Builtin → List ℕ
builtin_spelling builtins.Abs = codes "abs"
builtin_spelling builtins.Min = codes "min"
builtin_spelling builtins.Max = codes "max"
builtin_spelling builtins.Count = codes "count"
builtin_spelling builtins.Card = codes "card"
builtin_spelling builtins.Member = codes "member"
builtin_spelling builtins.Union = codes "union"
builtin_spelling builtins.Inter = codes "inter"
builtin_spelling builtins.Minus = codes "minus"
builtin_spelling builtins.AllDifferent = codes "alldifferent"
builtin_spelling builtins.AtMost = codes "atmost"
builtin_spelling builtins.AtLeast = codes "atleast"
builtin_spelling builtins.Exactly = codes "exactly"
builtin_spelling builtins.Knapsack = codes "knapsack"
builtin_spelling builtins.MultiKnapsack = codes "multiknapsack"
builtin_spelling builtins.Sequence = codes "sequence"
builtin_spelling builtins.User = codes "user"

-- all methods
abbrev pub all_methods : List Method
all_methods = methods.Close ∷ methods.Post ∷ methods.Violations ∷ methods.SystemAssignDelta ∷ methods.SystemSwapDelta ∷ methods.ObjectiveAssignDelta ∷ methods.ObjectiveSwapDelta ∷ methods.ObjectiveValue ∷ methods.ObjectiveEvaluation ∷ methods.PostPart ∷ methods.Draw ∷ methods.ReadInt ∷ methods.HasMove ∷ methods.GetMove ∷ methods.Report ∷ methods.BestValue ∷ methods.HasBest ∷ methods.CopyBest ∷ methods.Stop ∷ methods.IsStopped ∷ methods.Restore ∷ methods.Low ∷ methods.Up ∷ methods.RangeSize ∷ methods.Insert ∷ methods.Delete ∷ methods.Contains ∷ methods.SetSize ∷ methods.ArraySize ∷ methods.Domain ∷ []

-- all functions of the language, the constraints among them
abbrev pub all_builtins : List Builtin
all_builtins = builtins.Abs ∷ builtins.Min ∷ builtins.Max ∷ builtins.Count ∷ builtins.Card ∷ builtins.Member ∷ builtins.Union ∷ builtins.Inter ∷ builtins.Minus ∷ builtins.AllDifferent ∷ builtins.AtMost ∷ builtins.AtLeast ∷ builtins.Exactly ∷ builtins.Knapsack ∷ builtins.MultiKnapsack ∷ builtins.Sequence ∷ builtins.User ∷ []

-- the item with this number, if there is a number and an item
abbrev pub at_place : {A : Type 0} → List A → Option ℕ → Option A
at_place xs None = None
at_place xs (Some i) = slice_get xs i

-- the first that meets a test
abbrev pub first : {A : Type 0} → (A → Bool) → List A → Option A
first p xs = at_place xs (position p xs)

-- whether it is the method of this name on what is of this kind
abbrev pub is_method : Kind → List ℕ → Method → Bool
is_method k name m = receives m k && bytes_eq (method_spelling m) name

-- the method of this name on what is of this kind
unfoldable pub method_named : Kind → List ℕ → Option Method
method_named k name = first (is_method k name) all_methods

-- whether it is the function of this name
abbrev pub is_builtin : List ℕ → Builtin → Bool
is_builtin name b = bytes_eq (builtin_spelling b) name

-- the function of the language of this name
unfoldable pub builtin_named : List ℕ → Option Builtin
builtin_named name = first (is_builtin name) all_builtins
