-- The forms of what stands at the top of a program, and of the types in it.
-- A rule of the language.
use Rattle.std.specs.Prelude.{List, [], ◌∷◌}
use Rattle.comet_syntax.specs.declared.token.Word.TheVariants as words
use Rattle.comet_syntax.specs.Grammar.Symbols.{Symbol, block, brackets, deeper, mark, named, parameter, parameter_kind, parameters, parameters_tail, program, quoted, result_kind, same, statement, template, top, word}

abbrev pub program_top : List Symbol
program_top = same top ∷ same program ∷ []

abbrev pub result_kind_void : List Symbol
result_kind_void = word words.Void ∷ []

abbrev pub result_kind_int : List Symbol
result_kind_int = word words.Int ∷ []

abbrev pub result_kind_bool : List Symbol
result_kind_bool = word words.Bool ∷ []

abbrev pub parameters_parameter : List Symbol
parameters_parameter = same parameter ∷ same parameters_tail ∷ []

abbrev pub parameters_tail_comma : List Symbol
parameters_tail_comma = word words.Comma ∷ same parameter ∷ same parameters_tail ∷ []

abbrev pub parameter_parameter_kind : List Symbol
parameter_parameter_kind = same parameter_kind ∷ named ∷ []

abbrev pub parameter_kind_int : List Symbol
parameter_kind_int = mark words.Int ∷ same brackets ∷ []

abbrev pub parameter_kind_bool : List Symbol
parameter_kind_bool = mark words.Bool ∷ []

abbrev pub parameter_kind_range : List Symbol
parameter_kind_range = mark words.Range ∷ []

abbrev pub parameter_kind_set : List Symbol
parameter_kind_set = mark words.Set ∷ word words.LeftBrace ∷ word words.Int ∷ word words.RightBrace ∷ []

abbrev pub parameter_kind_var : List Symbol
parameter_kind_var = mark words.Var ∷ word words.LeftBrace ∷ word words.Int ∷ word words.RightBrace ∷ same brackets ∷ []

abbrev pub parameter_kind_inc : List Symbol
parameter_kind_inc = mark words.Inc ∷ word words.LeftBrace ∷ word words.Int ∷ word words.RightBrace ∷ same brackets ∷ []

abbrev pub parameter_kind_solver : List Symbol
parameter_kind_solver = mark words.Solver ∷ word words.Less ∷ named ∷ word words.Greater ∷ []

abbrev pub parameter_kind_local_solver : List Symbol
parameter_kind_local_solver = mark words.LocalSolver ∷ []

abbrev pub parameter_kind_constraint_system : List Symbol
parameter_kind_constraint_system = mark words.ConstraintSystem ∷ same template ∷ []

abbrev pub parameter_kind_best_monitor : List Symbol
parameter_kind_best_monitor = mark words.BestMonitor ∷ []

abbrev pub brackets_left_bracket : List Symbol
brackets_left_bracket = word words.LeftBracket ∷ word words.RightBracket ∷ []

abbrev pub template_less : List Symbol
template_less = word words.Less ∷ named ∷ word words.Greater ∷ []

abbrev pub class_name_solver : List Symbol
class_name_solver = mark words.Solver ∷ word words.Less ∷ named ∷ word words.Greater ∷ []

abbrev pub class_name_local_solver : List Symbol
class_name_local_solver = mark words.LocalSolver ∷ []

abbrev pub class_name_constraint_system : List Symbol
class_name_constraint_system = mark words.ConstraintSystem ∷ same template ∷ []

abbrev pub class_name_function_expr : List Symbol
class_name_function_expr = mark words.FunctionExpr ∷ same template ∷ []

abbrev pub class_name_function_sum : List Symbol
class_name_function_sum = mark words.FunctionSum ∷ same template ∷ []

abbrev pub class_name_uniform_distribution : List Symbol
class_name_uniform_distribution = mark words.UniformDistribution ∷ []

abbrev pub class_name_input_file : List Symbol
class_name_input_file = mark words.InputFile ∷ []

abbrev pub class_name_min_neighbor_selector : List Symbol
class_name_min_neighbor_selector = mark words.MinNeighborSelector ∷ []

abbrev pub class_name_best_monitor : List Symbol
class_name_best_monitor = mark words.BestMonitor ∷ []

abbrev pub class_name_solution : List Symbol
class_name_solution = mark words.Solution ∷ []

abbrev pub top_import : List Symbol
top_import = word words.Import ∷ named ∷ word words.Semicolon ∷ []

abbrev pub top_include : List Symbol
top_include = word words.Include ∷ quoted ∷ word words.Semicolon ∷ []

abbrev pub top_function : List Symbol
top_function = mark words.Function ∷ same result_kind ∷ named ∷ word words.LeftParenthesis ∷ same parameters ∷ word words.RightParenthesis ∷ deeper block ∷ []

abbrev pub top_statement : List Symbol
top_statement = deeper statement ∷ []
