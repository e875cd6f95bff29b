-- A program, written as the derivation that it stands for.
-- A rule of this project.
use Rattle.std.specs.Prelude.{List, [], ◌∷◌}
use Rattle.cbl_base.specs.declared.place.Place.{Place}
use Rattle.comet_syntax.specs.declared.token.TokenKind.TheVariants as kinds
use Rattle.comet_syntax.specs.declared.token.Word.TheVariants as words
use Rattle.comet_syntax.specs.declared.tree.declarations.Incremental.{Incremental}
use Rattle.comet_syntax.specs.declared.tree.declarations.Incremental.TheVariants as incrementals
use Rattle.comet_syntax.specs.declared.tree.program.Function.{Function}
use Rattle.comet_syntax.specs.declared.tree.program.Parameter.{Parameter}
use Rattle.comet_syntax.specs.declared.tree.program.ParameterKind.{ParameterKind}
use Rattle.comet_syntax.specs.declared.tree.program.ParameterKind.TheVariants as parameters_of
use Rattle.comet_syntax.specs.declared.tree.program.Program.{Program}
use Rattle.comet_syntax.specs.declared.tree.program.ResultKind.{ResultKind}
use Rattle.comet_syntax.specs.declared.tree.program.ResultKind.TheVariants as results
use Rattle.comet_syntax.specs.declared.tree.program.TopPart.{TopPart}
use Rattle.comet_syntax.specs.declared.tree.program.TopPart.TheVariants as tops
use Rattle.comet_syntax.specs.Written.Shown.{Shown, form, plain, Grows, each, word, mark, name}
use Rattle.comet_syntax.specs.Written.Declarations.{template_text, int_in_braces}
use Rattle.comet_syntax.specs.Written.Statements.{written_statement, written_block}
use Rattle.comet_syntax.specs.Grammar.Programs.{program_top, result_kind_void, result_kind_int, result_kind_bool, parameters_parameter, parameters_tail_comma, parameter_parameter_kind, parameter_kind_int, parameter_kind_bool, parameter_kind_range, parameter_kind_set, parameter_kind_var, parameter_kind_inc, parameter_kind_solver, parameter_kind_local_solver, parameter_kind_constraint_system, parameter_kind_best_monitor, brackets_left_bracket, top_import, top_include, top_function, top_statement}
use Rattle.comet_syntax.specs.Grammar.Symbols.{program, top, result_kind, parameters, parameters_tail, parameter, parameter_kind, brackets}

abbrev pub result_text : ResultKind → Grows
result_text results.Void behind = form result_kind result_kind_void ∷ word words.Void behind
result_text results.Int behind = form result_kind result_kind_int ∷ word words.Int behind
result_text results.Bool behind = form result_kind result_kind_bool ∷ word words.Bool behind

abbrev pub no_brackets : Grows
no_brackets behind = form brackets [] ∷ behind

abbrev pub with_brackets : Grows
with_brackets behind = form brackets brackets_left_bracket ∷ word words.LeftBracket (word words.RightBracket behind)

abbrev pub parameter_variable : Incremental → Place → Grows
parameter_variable incrementals.Var place behind = form parameter_kind parameter_kind_var ∷ mark words.Var place (int_in_braces behind)
parameter_variable incrementals.Inc place behind = form parameter_kind parameter_kind_inc ∷ mark words.Inc place (int_in_braces behind)

abbrev pub parameter_text : ParameterKind → Place → Grows
parameter_text parameters_of.Int place behind = form parameter_kind parameter_kind_int ∷ mark words.Int place (no_brackets behind)
parameter_text parameters_of.IntArray place behind = form parameter_kind parameter_kind_int ∷ mark words.Int place (with_brackets behind)
parameter_text parameters_of.Bool place behind = form parameter_kind parameter_kind_bool ∷ mark words.Bool place behind
parameter_text parameters_of.Range place behind = form parameter_kind parameter_kind_range ∷ mark words.Range place behind
parameter_text parameters_of.Set place behind = form parameter_kind parameter_kind_set ∷ mark words.Set place (int_in_braces behind)
parameter_text (parameters_of.Variable w) place behind = parameter_variable w place (no_brackets behind)
parameter_text (parameters_of.VariableArray w) place behind = parameter_variable w place (with_brackets behind)
parameter_text (parameters_of.Solver n) place behind = form parameter_kind parameter_kind_solver ∷ mark words.Solver place (word words.Less (name n (word words.Greater behind)))
parameter_text parameters_of.LocalSolver place behind = form parameter_kind parameter_kind_local_solver ∷ mark words.LocalSolver place behind
parameter_text (parameters_of.ConstraintSystem n) place behind = form parameter_kind parameter_kind_constraint_system ∷ mark words.ConstraintSystem place (template_text n behind)
parameter_text parameters_of.BestMonitor place behind = form parameter_kind parameter_kind_best_monitor ∷ mark words.BestMonitor place behind

abbrev pub written_parameter : Parameter → Grows
written_parameter p behind = form parameter parameter_parameter_kind ∷ parameter_text p.kind p.place (name p.name behind)

abbrev pub more_parameter : Parameter → Grows
more_parameter p behind = form parameters_tail parameters_tail_comma ∷ word words.Comma (written_parameter p behind)

abbrev pub parameters_text : List Parameter → Grows
parameters_text [] behind = form parameters [] ∷ behind
parameters_text (p ∷ more) behind = form parameters parameters_parameter ∷ written_parameter p (each more_parameter more (form parameters_tail [] ∷ behind))

abbrev pub written_function : Function → Grows
written_function f behind = form top top_function ∷ mark words.Function f.place (result_text f.result (name f.name (word words.LeftParenthesis (parameters_text f.parameters.items
    (word words.RightParenthesis (written_block f.body behind))))))

abbrev pub written_top : TopPart → Grows
written_top (tops.Import n) behind = form top top_import ∷ word words.Import (name n (word words.Semicolon behind))
written_top (tops.Include text) behind = form top top_include ∷ word words.Include (plain (kinds.Str text) ∷ word words.Semicolon behind)
written_top (tops.Function f) behind = written_function f.value behind
written_top (tops.Statement s) behind = form top top_statement ∷ written_statement s behind

abbrev pub more_top : TopPart → Grows
more_top t behind = form program program_top ∷ written_top t behind

abbrev pub all_tops : List TopPart → Grows
all_tops all behind = each more_top all (form program [] ∷ behind)

abbrev pub written_program : Program → List Shown
written_program p = all_tops p.parts.items []
