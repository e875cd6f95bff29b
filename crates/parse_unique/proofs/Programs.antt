-- A program is read back.
use Rattle.std.specs.Prelude.{ℕ, List, [], ◌∷◌, ◌≡◌, map, refl}
use Rattle.std.proofs.Common.{sym, ◌∙◌, ap, arith}
use Rattle.cbl_base.specs.declared.place.Place.{Place}
use Rattle.comet_syntax.specs.declared.token.TokenKind.TheVariants as kinds
use Rattle.comet_syntax.specs.declared.token.Word.TheVariants as words
use Rattle.comet_syntax.specs.declared.token.Token.{Token}
use Rattle.comet_syntax.specs.declared.tree.declarations.Incremental.{Incremental}
use Rattle.comet_syntax.specs.declared.tree.declarations.Incremental.TheVariants as incrementals
use Rattle.comet_syntax.specs.declared.tree.program.Parameter.{Parameter}
use Rattle.comet_syntax.specs.declared.tree.program.ParameterKind.{ParameterKind}
use Rattle.comet_syntax.specs.declared.tree.program.ParameterKind.TheVariants as parameters_of
use Rattle.comet_syntax.specs.declared.tree.program.Program.{Program}
use Rattle.comet_syntax.specs.declared.tree.program.ResultKind.{ResultKind}
use Rattle.comet_syntax.specs.declared.tree.program.ResultKind.TheVariants as results
use Rattle.comet_syntax.specs.declared.tree.program.TopPart.{TopPart}
use Rattle.comet_syntax.specs.declared.tree.program.TopPart.TheVariants as tops
use Rattle.comet_syntax.specs.Spells.{Spells, SpellsAtAnyDepth}
use Rattle.comet_syntax.specs.Written.Shown.{Shown, form, plain, each, kept}
use Rattle.comet_syntax.specs.Written.Programs.{result_text, no_brackets, with_brackets, parameter_variable, parameter_text, written_parameter, more_parameter, parameters_text, written_top, more_top, written_program}
use Rattle.comet_syntax.specs.Grammar.Programs.{program_top, result_kind_void, result_kind_int, result_kind_bool, parameters_parameter, parameters_tail_comma, parameter_parameter_kind, parameter_kind_int, parameter_kind_bool, parameter_kind_range, parameter_kind_set, parameter_kind_var, parameter_kind_inc, parameter_kind_solver, parameter_kind_local_solver, parameter_kind_constraint_system, parameter_kind_best_monitor, brackets_left_bracket, top_import, top_include, top_function, top_statement}
use Rattle.comet_syntax.specs.Grammar.Symbols.{program, top, result_kind, parameters, parameters_tail, parameter, parameter_kind, brackets}
use Rattle.parse_unique.specs.Bare.{Bare, bare_statement, bare_top, bare_program, SameProgram}
use Rattle.parse_unique.proofs.Values.{sign, nothing, tree, kind_is, parameter_is, parameters_are, result_is, top_of, list_in, part_step, valued, ends}
use Rattle.parse_unique.proofs.Listings.{Fine, more_ends, as_many, fine_then, Pushes, ◌⊳◌, signs, marks, names, shows, formed, left_out, rest_of, list_rest}
use Rattle.parse_unique.proofs.Declarations.{template_puts, int_in_braces_puts}
use Rattle.parse_unique.proofs.Blocks.{statement_puts, whole_block_puts}
use Rattle.parse_unique.proofs.Ends.{ends_once}
use Rattle.parse_unique.proofs.Runs.{one_run, at_any}

result_puts : (r : ResultKind) → Pushes (result_text r) (result_is r ∷ [])
result_puts results.Void = formed result_kind result_kind_void (result_is results.Void) (λ k. refl) (signs words.Void) (λ s. refl)
result_puts results.Int = formed result_kind result_kind_int (result_is results.Int) (λ k. refl) (signs words.Int) (λ s. refl)
result_puts results.Bool = formed result_kind result_kind_bool (result_is results.Bool) (λ k. refl) (signs words.Bool) (λ s. refl)

no_brackets_puts : Pushes no_brackets (nothing ∷ [])
no_brackets_puts = left_out brackets nothing (λ k. refl) (λ s. refl)

brackets_puts : Pushes with_brackets (tree Bare.no_more ∷ [])
brackets_puts = formed brackets brackets_left_bracket (tree Bare.no_more) (λ k. refl) (signs words.LeftBracket ⊳ signs words.RightBracket) (λ s. refl)

variable_puts : (w : Incremental) (p : Place) → Pushes (λ X. parameter_variable w p (no_brackets X)) (kind_is (parameters_of.Variable w) p ∷ [])
variable_puts incrementals.Var p = formed parameter_kind parameter_kind_var (kind_is (parameters_of.Variable incrementals.Var) p) (λ k. refl) (marks words.Var p ⊳ (int_in_braces_puts ⊳ no_brackets_puts)) (λ s. refl)
variable_puts incrementals.Inc p = formed parameter_kind parameter_kind_inc (kind_is (parameters_of.Variable incrementals.Inc) p) (λ k. refl) (marks words.Inc p ⊳ (int_in_braces_puts ⊳ no_brackets_puts)) (λ s. refl)

array_puts : (w : Incremental) (p : Place) → Pushes (λ X. parameter_variable w p (with_brackets X)) (kind_is (parameters_of.VariableArray w) p ∷ [])
array_puts incrementals.Var p = formed parameter_kind parameter_kind_var (kind_is (parameters_of.VariableArray incrementals.Var) p) (λ k. refl) (marks words.Var p ⊳ (int_in_braces_puts ⊳ brackets_puts)) (λ s. refl)
array_puts incrementals.Inc p = formed parameter_kind parameter_kind_inc (kind_is (parameters_of.VariableArray incrementals.Inc) p) (λ k. refl) (marks words.Inc p ⊳ (int_in_braces_puts ⊳ brackets_puts)) (λ s. refl)

kind_puts : (k : ParameterKind) (p : Place) → Pushes (parameter_text k p) (kind_is k p ∷ [])
kind_puts parameters_of.Int p = formed parameter_kind parameter_kind_int (kind_is parameters_of.Int p) (λ k. refl) (marks words.Int p ⊳ no_brackets_puts) (λ s. refl)
kind_puts parameters_of.IntArray p = formed parameter_kind parameter_kind_int (kind_is parameters_of.IntArray p) (λ k. refl) (marks words.Int p ⊳ brackets_puts) (λ s. refl)
kind_puts parameters_of.Bool p = formed parameter_kind parameter_kind_bool (kind_is parameters_of.Bool p) (λ k. refl) (marks words.Bool p) (λ s. refl)
kind_puts parameters_of.Range p = formed parameter_kind parameter_kind_range (kind_is parameters_of.Range p) (λ k. refl) (marks words.Range p) (λ s. refl)
kind_puts parameters_of.Set p = formed parameter_kind parameter_kind_set (kind_is parameters_of.Set p) (λ k. refl) (marks words.Set p ⊳ int_in_braces_puts) (λ s. refl)
kind_puts (parameters_of.Variable w) p = variable_puts w p
kind_puts (parameters_of.VariableArray w) p = array_puts w p
kind_puts (parameters_of.Solver n) p = formed parameter_kind parameter_kind_solver (kind_is (parameters_of.Solver n) p) (λ k. refl) (marks words.Solver p ⊳ (signs words.Less ⊳ (names n ⊳ signs words.Greater))) (λ s. refl)
kind_puts parameters_of.LocalSolver p = formed parameter_kind parameter_kind_local_solver (kind_is parameters_of.LocalSolver p) (λ k. refl) (marks words.LocalSolver p) (λ s. refl)
kind_puts (parameters_of.ConstraintSystem n) p = formed parameter_kind parameter_kind_constraint_system (kind_is (parameters_of.ConstraintSystem n) p) (λ k. refl) (marks words.ConstraintSystem p ⊳ template_puts n) (λ s. refl)
kind_puts parameters_of.BestMonitor p = formed parameter_kind parameter_kind_best_monitor (kind_is parameters_of.BestMonitor p) (λ k. refl) (marks words.BestMonitor p) (λ s. refl)

parameter_puts : (p : Parameter) → Pushes (written_parameter p) (parameter_is p ∷ [])
parameter_puts p = formed parameter parameter_parameter_kind (parameter_is p) (λ k. refl) (kind_puts p.kind p.place ⊳ names p.name) (λ s. refl)

more_parameters_puts : (ps : List Parameter) → Pushes (λ X. each more_parameter ps (form parameters_tail [] ∷ X)) (parameters_are ps ∷ [])
more_parameters_puts [] = left_out parameters_tail (parameters_are []) (λ k. refl) (λ s. refl)
more_parameters_puts (p ∷ ps) = formed parameters_tail parameters_tail_comma (parameters_are (p ∷ ps)) (λ k. refl) (signs words.Comma ⊳ (parameter_puts p ⊳ more_parameters_puts ps)) (λ s. refl)

parameters_puts : (ps : List Parameter) → Pushes (parameters_text ps) (parameters_are ps ∷ [])
parameters_puts [] = left_out parameters (parameters_are []) (λ k. refl) (λ s. refl)
parameters_puts (p ∷ ps) = formed parameters parameters_parameter (parameters_are (p ∷ ps)) (λ k. refl) (parameter_puts p ⊳ more_parameters_puts ps) (λ s. refl)

top_puts : (t : TopPart) → Pushes (written_top t) (tree (bare_top t) ∷ [])
top_puts (tops.Import n) = formed top top_import (tree (Bare.import n)) (λ k. refl) (signs words.Import ⊳ (names n ⊳ signs words.Semicolon)) (λ s. refl)
top_puts (tops.Include t) = formed top top_include (tree (Bare.include t)) (λ k. refl)
    (signs words.Include ⊳ (shows (plain (kinds.Str t)) (sign (kinds.Str t)) (λ X. refl) (λ X. refl) ⊳ signs words.Semicolon)) (λ s. refl)
top_puts (tops.Function f) = formed top top_function (tree (bare_top (tops.Function f))) (λ k. refl)
    (marks words.Function f.value.place ⊳ (result_puts f.value.result ⊳ (names f.value.name ⊳ (signs words.LeftParenthesis ⊳ (parameters_puts f.value.parameters.items ⊳ (signs words.RightParenthesis ⊳ whole_block_puts f.value.body)))))) (λ s. refl)
top_puts (tops.Statement s) = formed top top_statement (tree (Bare.top_statement (bare_statement s))) (λ k. refl) (statement_puts s) (λ s. refl)

all_puts : (all : List TopPart) → Fine 1 (ends (each more_top all (form program [] ∷ []))) (valued (each more_top all (form program [] ∷ [])) ≡ rest_of (map bare_top all) ∷ [])
all_puts [] = as_many refl refl
all_puts (t ∷ all) = fine_then (all_puts all) ((top_puts t).push (each more_top all (form program [] ∷ [])))
    (λ e d. ap (part_step program program_top) (d ∙ ap (λ s. tree (bare_top t) ∷ s) e) ∙ ap (λ b. tree (Bare.more (bare_top t) b) ∷ []) (list_rest (map bare_top all)))

found : {m : ℕ} {P : Type 0} → m ≡ 1 → Fine 1 m P → P
found e (more_ends l) = absurd (omega arith)
found e (as_many d p) = p

-- what a listing that a derivation has says of the program that is written so
pub read_back : (p : Program) (listing : List Shown) → ends listing ≡ 1 → listing ≡ written_program p → list_in (top_of (valued listing)) ≡ bare_program p
read_back p listing once e =
    let v : valued (written_program p) ≡ rest_of (map bare_top p.parts.items) ∷ [] = found (ap ends (sym e) ∙ once) (all_puts p.parts.items) in
    ap (λ l. list_in (top_of (valued l))) e ∙ (ap (λ s. list_in (top_of s)) v ∙ list_rest (map bare_top p.parts.items))

pub same_program : (tokens : List Token) (p q : Program) → SpellsAtAnyDepth p tokens → SpellsAtAnyDepth q tokens → SameProgram p q
same_program tokens p q spells others =
    let once : ends (kept spells.0) ≡ 1 = ends_once spells.1 in
    sym (read_back p (kept spells.0) once spells.2) ∙ read_back q (kept spells.0) once (sym (ap kept (one_run spells.1 others.1)) ∙ others.2)

pub at_any_depth : (limit : ℕ) (tokens : List Token) (p : Program) → Spells limit p tokens → SpellsAtAnyDepth p tokens
at_any_depth limit tokens p spells = (spells.0, at_any (λ d h. tt) spells.1, spells.2)
