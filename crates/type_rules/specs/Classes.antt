-- Classes and the types of parameters: one row for each. From the language.
use Rattle.std.specs.Prelude.{Bool, true, false, List, [], ◌∷◌, codes, Option, Some, None}
use Rattle.std.specs.Str.{bytes_eq}
use Rattle.comet_syntax.specs.declared.tree.expressions.Name.{Name}
use Rattle.comet_syntax.specs.declared.tree.declarations.ClassKind.{ClassKind}
use Rattle.comet_syntax.specs.declared.tree.declarations.ClassKind.TheVariants as classes
use Rattle.comet_syntax.specs.declared.tree.program.ParameterKind.{ParameterKind}
use Rattle.comet_syntax.specs.declared.tree.program.ParameterKind.TheVariants as parameters
use Rattle.checked_tree.specs.declared.kind.Kind.{Kind}
use Rattle.checked_tree.specs.declared.kind.Kind.TheVariants as kind
use Rattle.type_rules.specs.declared.kinds.Asked.TheVariants as asked
use Rattle.type_rules.specs.declared.kinds.Want.{Want}

-- local search is the only technology
abbrev pub is_ls : Name → Bool
is_ls n = bytes_eq n.text (codes "LS")

-- the same, where the angle brackets may be left out
abbrev pub is_ls_or_none : Option Name → Bool
is_ls_or_none None = true
is_ls_or_none (Some n) = is_ls n

-- what an object of a class is
abbrev pub class_kind : ClassKind → Kind
class_kind (classes.Solver n) = kind.Solver
class_kind classes.LocalSolver = kind.Solver
class_kind (classes.ConstraintSystem n) = kind.System
class_kind (classes.FunctionExpr n) = kind.Objective
class_kind (classes.FunctionSum n) = kind.Total
class_kind classes.UniformDistribution = kind.Distribution
class_kind classes.InputFile = kind.Input
class_kind classes.MinNeighborSelector = kind.Selector
class_kind classes.BestMonitor = kind.Monitor
class_kind classes.Solution = kind.Solution

-- whether the angle brackets of a class, where it has some, hold `LS`
abbrev pub class_is_ls : ClassKind → Bool
class_is_ls (classes.Solver n) = is_ls n
class_is_ls classes.LocalSolver = true
class_is_ls (classes.ConstraintSystem n) = is_ls_or_none n
class_is_ls (classes.FunctionExpr n) = is_ls_or_none n
class_is_ls (classes.FunctionSum n) = is_ls_or_none n
class_is_ls classes.UniformDistribution = true
class_is_ls classes.InputFile = true
class_is_ls classes.MinNeighborSelector = true
class_is_ls classes.BestMonitor = true
class_is_ls classes.Solution = true

-- an argument that is a solver
abbrev pub a_solver : Want
a_solver = record { asked = asked.Exactly kind.Solver; fixed = false }

-- an argument that is a number, as a term
abbrev pub a_term : Want
a_term = record { asked = asked.Number; fixed = false }

-- an argument that is a range
abbrev pub a_range : Want
a_range = record { asked = asked.Range; fixed = false }

-- what the maker of an object is handed
abbrev pub class_wants : Kind → List Want
class_wants kind.System = a_solver ∷ []
class_wants kind.Objective = a_term ∷ []
class_wants kind.Total = a_solver ∷ []
class_wants kind.Distribution = a_range ∷ []
class_wants kind.Solution = a_solver ∷ []
class_wants k = []

-- what a parameter is
abbrev pub parameter_kind : ParameterKind → Kind
parameter_kind parameters.Int = kind.Int
parameter_kind parameters.IntArray = kind.Array
parameter_kind parameters.Bool = kind.Bool
parameter_kind parameters.Range = kind.Range
parameter_kind parameters.Set = kind.Set
parameter_kind (parameters.Variable w) = kind.Variable
parameter_kind (parameters.VariableArray w) = kind.VariableArray
parameter_kind (parameters.Solver n) = kind.Solver
parameter_kind parameters.LocalSolver = kind.Solver
parameter_kind (parameters.ConstraintSystem n) = kind.System
parameter_kind parameters.BestMonitor = kind.Monitor

-- whether the angle brackets of a parameter's type, where it has some, hold `LS`
abbrev pub parameter_is_ls : ParameterKind → Bool
parameter_is_ls (parameters.Solver n) = is_ls n
parameter_is_ls (parameters.ConstraintSystem n) = is_ls_or_none n
parameter_is_ls parameters.Int = true
parameter_is_ls parameters.IntArray = true
parameter_is_ls parameters.Bool = true
parameter_is_ls parameters.Range = true
parameter_is_ls parameters.Set = true
parameter_is_ls (parameters.Variable w) = true
parameter_is_ls (parameters.VariableArray w) = true
parameter_is_ls parameters.LocalSolver = true
parameter_is_ls parameters.BestMonitor = true
