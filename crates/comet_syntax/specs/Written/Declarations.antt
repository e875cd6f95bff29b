-- Declarations, written as the derivations that they stand for.
-- A rule of this project.
use Rattle.std.specs.Prelude.{List, [], ◌∷◌, Option, None, Some, map}
use Rattle.cbl_base.specs.declared.place.Place.{Place}
use Rattle.comet_syntax.specs.declared.token.Word.TheVariants as words
use Rattle.comet_syntax.specs.declared.tree.expressions.Name.{Name}
use Rattle.comet_syntax.specs.declared.tree.expressions.Expression.{Expression}
use Rattle.comet_syntax.specs.declared.tree.expressions.Argument.{Argument}
use Rattle.comet_syntax.specs.declared.tree.declarations.Class.{Class}
use Rattle.comet_syntax.specs.declared.tree.declarations.ClassKind.{ClassKind}
use Rattle.comet_syntax.specs.declared.tree.declarations.ClassKind.TheVariants as classes
use Rattle.comet_syntax.specs.declared.tree.declarations.Dimension.{Dimension}
use Rattle.comet_syntax.specs.declared.tree.declarations.Dimensions.{Dimensions}
use Rattle.comet_syntax.specs.declared.tree.declarations.Incremental.{Incremental}
use Rattle.comet_syntax.specs.declared.tree.declarations.Incremental.TheVariants as incrementals
use Rattle.comet_syntax.specs.declared.tree.declarations.Maker.{Maker}
use Rattle.comet_syntax.specs.declared.tree.declarations.Maker.TheVariants as makers
use Rattle.comet_syntax.specs.declared.tree.declarations.VariableStart.{VariableStart}
use Rattle.comet_syntax.specs.declared.tree.declarations.VariableStart.TheVariants as starts
use Rattle.comet_syntax.specs.declared.tree.declarations.Declaration.{Declaration}
use Rattle.comet_syntax.specs.declared.tree.declarations.Declaration.TheVariants as declarations
use Rattle.comet_syntax.specs.Written.Shown.{form, Grows, word, mark, name}
use Rattle.comet_syntax.specs.Written.Expressions.{Head, by_name, by_opening, opening, Writing, whole, written, written_argument, parenthesized}
use Rattle.comet_syntax.specs.Grammar.Programs.{template_less, class_name_solver, class_name_local_solver, class_name_constraint_system, class_name_function_expr, class_name_function_sum, class_name_uniform_distribution, class_name_input_file, class_name_min_neighbor_selector, class_name_best_monitor, class_name_solution}
use Rattle.comet_syntax.specs.Grammar.Declarations.{declaration_int, declaration_bool, declaration_range, declaration_set, declaration_var, declaration_inc, declaration_class_name, int_rest_left_bracket, int_rest_name, start_value_equal, variable_rest_int, variable_rest_set, domain_comma, variable_start_assign, variable_start_arrow, maker_left_parenthesis, maker_equal, dimensions_left_bracket, dimensions_tail_comma, dimension_name, dimension_unnamed, dimension_rest_in, dimension_rest_called}
use Rattle.comet_syntax.specs.Grammar.Symbols.{template, class_name, declaration, int_rest, start_value, variable_rest, domain, variable_start, maker, dimensions, dimensions_tail, dimension, dimension_rest}

abbrev pub whole_text : Expression → Grows
whole_text e = whole (written e)

abbrev pub arguments_in : List Argument → Grows
arguments_in a = parenthesized (map written_argument a)

abbrev pub template_text : Option Name → Grows
template_text None behind = form template [] ∷ behind
template_text (Some n) behind = form template template_less ∷ word words.Less (name n (word words.Greater behind))

abbrev pub class_text : ClassKind → Place → Grows
class_text (classes.Solver n) place behind = form class_name class_name_solver ∷ mark words.Solver place (word words.Less (name n (word words.Greater behind)))
class_text classes.LocalSolver place behind = form class_name class_name_local_solver ∷ mark words.LocalSolver place behind
class_text (classes.ConstraintSystem n) place behind = form class_name class_name_constraint_system ∷ mark words.ConstraintSystem place (template_text n behind)
class_text (classes.FunctionExpr n) place behind = form class_name class_name_function_expr ∷ mark words.FunctionExpr place (template_text n behind)
class_text (classes.FunctionSum n) place behind = form class_name class_name_function_sum ∷ mark words.FunctionSum place (template_text n behind)
class_text classes.UniformDistribution place behind = form class_name class_name_uniform_distribution ∷ mark words.UniformDistribution place behind
class_text classes.InputFile place behind = form class_name class_name_input_file ∷ mark words.InputFile place behind
class_text classes.MinNeighborSelector place behind = form class_name class_name_min_neighbor_selector ∷ mark words.MinNeighborSelector place behind
class_text classes.BestMonitor place behind = form class_name class_name_best_monitor ∷ mark words.BestMonitor place behind
class_text classes.Solution place behind = form class_name class_name_solution ∷ mark words.Solution place behind

abbrev pub written_class : Class → Grows
written_class c = class_text c.kind c.place

-- `new class(arguments)` behind the word `new`
abbrev pub made_text : Class → List Argument → Grows
made_text c a behind = written_class c (arguments_in a behind)

abbrev pub start_text : Option Expression → Grows
start_text None behind = form start_value [] ∷ behind
start_text (Some e) behind = form start_value start_value_equal ∷ word words.Equal (whole_text e behind)

-- a dimension without a name of its own, which may begin with a name
abbrev pub dimension_head : Head → Grows
dimension_head (by_name n) behind = form dimension dimension_name ∷ name n (form dimension_rest dimension_rest_called ∷ behind)
dimension_head (by_opening o) behind = form dimension dimension_unnamed ∷ opening o behind

abbrev pub dimension_by : Option Name → Writing → Grows
dimension_by None e behind = dimension_head e.head (e.whole_rest behind)
dimension_by (Some n) e behind = form dimension dimension_name ∷ name n (form dimension_rest dimension_rest_in ∷ word words.In (whole e behind))

abbrev pub written_dimension : Dimension → Grows
written_dimension d = dimension_by d.name (written d.range)

abbrev pub second_dimension : Option Dimension → Grows
second_dimension None behind = form dimensions_tail [] ∷ behind
second_dimension (Some d) behind = form dimensions_tail dimensions_tail_comma ∷ word words.Comma (written_dimension d behind)

abbrev pub dimensions_text : Option Dimensions → Grows
dimensions_text None behind = form dimensions [] ∷ behind
dimensions_text (Some d) behind = form dimensions dimensions_left_bracket ∷ word words.LeftBracket (written_dimension d.first (second_dimension d.second (word words.RightBracket behind)))

abbrev pub domain_text : Option Expression → Grows
domain_text None behind = form domain [] ∷ behind
domain_text (Some e) behind = form domain domain_comma ∷ word words.Comma (whole_text e behind)

abbrev pub variable_start_text : Option VariableStart → Grows
variable_start_text None behind = form variable_start [] ∷ behind
variable_start_text (Some (starts.Assign e)) behind = form variable_start variable_start_assign ∷ word words.Assign (whole_text e behind)
variable_start_text (Some (starts.Define e)) behind = form variable_start variable_start_arrow ∷ word words.Arrow (whole_text e behind)

abbrev pub maker_text : Maker → Grows
maker_text (makers.Direct a) behind = form maker maker_left_parenthesis ∷ arguments_in a.items behind
maker_text (makers.New c a) behind = form maker maker_equal ∷ word words.Equal (word words.New (made_text c a.items behind))

-- `var{` or `inc{`
abbrev pub incremental_text : Incremental → Place → Grows
incremental_text incrementals.Var place behind = form declaration declaration_var ∷ mark words.Var place (word words.LeftBrace behind)
incremental_text incrementals.Inc place behind = form declaration declaration_inc ∷ mark words.Inc place (word words.LeftBrace behind)

abbrev pub int_in_braces : Grows
int_in_braces behind = word words.LeftBrace (word words.Int (word words.RightBrace behind))

abbrev pub written_declaration : Declaration → Grows
written_declaration (declarations.Int place n d e) behind = form declaration declaration_int ∷ mark words.Int place (form int_rest int_rest_name ∷ name n (dimensions_text d (start_text e behind)))
written_declaration (declarations.IntArray place n e) behind = form declaration declaration_int ∷ mark words.Int place (form int_rest int_rest_left_bracket
    ∷ word words.LeftBracket (word words.RightBracket (name n (word words.Equal (whole_text e behind)))))
written_declaration (declarations.Bool place n e) behind = form declaration declaration_bool ∷ mark words.Bool place (name n (start_text e behind))
written_declaration (declarations.Range place n e) behind = form declaration declaration_range ∷ mark words.Range place (name n (word words.Equal (whole_text e behind)))
written_declaration (declarations.Set place n e) behind = form declaration declaration_set ∷ mark words.Set place (int_in_braces (name n (start_text e behind)))
written_declaration (declarations.Variable place w n d s e v) behind = incremental_text w place (form variable_rest variable_rest_int ∷ word words.Int (word words.RightBrace (name n (dimensions_text d
    (word words.LeftParenthesis (name s (domain_text e (word words.RightParenthesis (variable_start_text v behind)))))))))
written_declaration (declarations.SetVariable place w n d s e) behind = incremental_text w place (form variable_rest variable_rest_set ∷ word words.Set (int_in_braces (word words.RightBrace (name n (dimensions_text d
    (word words.LeftParenthesis (name s (word words.RightParenthesis (word words.Arrow (whole_text e behind))))))))))
written_declaration (declarations.Object c n m) behind = form declaration declaration_class_name ∷ written_class c (name n (maker_text m behind))
