-- What each form of programs, of parameters and of classes makes is written as the form and its values.
use Rattle.std.specs.Prelude.{true, false, List, [], ◌∷◌, reverse, ◌≡◌}
use Rattle.std.proofs.Common.{sym, ◌∙◌, ap}
use Rattle.cbl_base.specs.declared.place.Place.{Place}
use Rattle.comet_syntax.specs.declared.token.Word.TheVariants as words
use Rattle.comet_syntax.specs.declared.tree.expressions.Name.{Name}
use Rattle.comet_syntax.specs.declared.tree.program.Function.{Function}
use Rattle.comet_syntax.specs.declared.tree.program.Parameter.{Parameter}
use Rattle.comet_syntax.specs.declared.tree.program.ResultKind.{ResultKind}
use Rattle.comet_syntax.specs.declared.tree.program.TopPart.TheVariants as tops
use Rattle.comet_syntax.specs.declared.tree.statements.Block.{Block}
use Rattle.comet_syntax.specs.Grammar.Programs.{top_function}
use Rattle.comet_syntax.specs.Grammar.Symbols.{top, parameters_tail}
use Rattle.comet_syntax.specs.Written.Shown.{Shown, Grows, form, each, mark, name, word}
use Rattle.comet_syntax.specs.Written.Declarations.{template_text, written_class}
use Rattle.comet_syntax.specs.Written.Statements.{written_block}
use Rattle.comet_syntax.specs.Written.Programs.{all_tops, more_parameter, parameter_text, parameters_text, result_text, written_function, written_parameter, written_top}
use Rattle.parse_machine.specs.Forms.{part_in_program, body_in_program}
use Rattle.parse_machine.specs.declared.form.ProgramForm.{ProgramForm}
use Rattle.parse_machine.specs.declared.form.ProgramForm.TheVariants as forms
use Rattle.parse_stacks.specs.Standing.{Fits}
use Rattle.parse_stacks.specs.Texts.{brackets_text}
use Rattle.build_declarations.specs.MadePrograms.{Made, IsFunction}

-- a function is written as its parts are
abbrev function_text : Place → ResultKind → Name → List Parameter → Block → Grows
function_text p r n ps b Y = form top top_function ∷ mark words.Function p (result_text r (name n (word words.LeftParenthesis (parameters_text ps (word words.RightParenthesis (written_block b Y))))))

function_fits : {p : Place} {r : ResultKind} {n : Name} {ps : List Parameter} {b : Block} (f : Function) (Y : List Shown) → IsFunction p r n ps b f → function_text p r n ps b Y ≡ written_function f Y
function_fits {r = r} {n = n} {ps = ps} {b = b} f Y m = ap (λ z. function_text z r n ps b Y) (sym m.place_is)
    ∙ (ap (λ z. function_text f.place z n ps b Y) (sym m.result_is)
    ∙ (ap (λ z. function_text f.place f.result z ps b Y) (sym m.name_is)
    ∙ (ap (λ z. function_text f.place f.result f.name z b Y) (sym m.parameters_are)
    ∙ ap (λ z. function_text f.place f.result f.name f.parameters.items z Y) (sym m.body_is))))

pub fits : (f : ProgramForm) → Fits (part_in_program f) (body_in_program f) (Made f)
fits forms.ProgramNone v x l m = (tt, λ Y. ap (λ z. all_tops (reverse z) Y) (sym m))
fits forms.ProgramTop v x l m = (tt, λ Y. ap (λ z. all_tops z Y) (sym m))
fits forms.TopImport v x l m = (tt, λ Y. ap (λ z. written_top z Y) (sym m))
fits forms.TopInclude v x l m = (tt, λ Y. ap (λ z. written_top z Y) (sym m))
fits forms.TopFunction v (tops.Function f) l m = (tt, λ Y. function_fits f.value Y m)
fits forms.TopFunction v (tops.Import n) l m = absurd m
fits forms.TopFunction v (tops.Include t) l m = absurd m
fits forms.TopFunction v (tops.Statement s) l m = absurd m
fits forms.TopStatement v x l m = (tt, λ Y. ap (λ z. written_top z Y) (sym m))
fits forms.ResultKindVoid v x l m = (tt, λ Y. ap (λ z. result_text z Y) (sym m))
fits forms.ResultKindInt v x l m = (tt, λ Y. ap (λ z. result_text z Y) (sym m))
fits forms.ResultKindBool v x l m = (tt, λ Y. ap (λ z. result_text z Y) (sym m))
fits forms.ParametersNone v x l m = (tt, λ Y. ap (λ z. parameters_text (reverse z) Y) (sym m))
fits forms.ParametersParameter v x l m = (tt, λ Y. ap (λ z. parameters_text z Y) (sym m))
fits forms.ParametersTailNone v x l m = (tt, λ Y. ap (λ z. each more_parameter (reverse z) (form parameters_tail [] ∷ Y)) (sym m))
fits forms.ParametersTailComma v x l m = (tt, λ Y. ap (λ z. each more_parameter z (form parameters_tail [] ∷ Y)) (sym m))
fits forms.ParameterParameterKind v x l m = (tt, λ Y. ap (λ z. written_parameter z Y) (sym m))
fits forms.ParameterKindInt (p, (true, u)) x l m = (tt, λ Y. ap (λ z. parameter_text z.kind z.place Y) (sym m))
fits forms.ParameterKindInt (p, (false, u)) x l m = (tt, λ Y. ap (λ z. parameter_text z.kind z.place Y) (sym m))
fits forms.ParameterKindBool v x l m = (tt, λ Y. ap (λ z. parameter_text z.kind z.place Y) (sym m))
fits forms.ParameterKindRange v x l m = (tt, λ Y. ap (λ z. parameter_text z.kind z.place Y) (sym m))
fits forms.ParameterKindSet v x l m = (tt, λ Y. ap (λ z. parameter_text z.kind z.place Y) (sym m))
fits forms.ParameterKindVar (p, (b, (i, (c, (true, u))))) x l m = (tt, λ Y. ap (λ z. parameter_text z.kind z.place Y) (sym m))
fits forms.ParameterKindVar (p, (b, (i, (c, (false, u))))) x l m = (tt, λ Y. ap (λ z. parameter_text z.kind z.place Y) (sym m))
fits forms.ParameterKindInc (p, (b, (i, (c, (true, u))))) x l m = (tt, λ Y. ap (λ z. parameter_text z.kind z.place Y) (sym m))
fits forms.ParameterKindInc (p, (b, (i, (c, (false, u))))) x l m = (tt, λ Y. ap (λ z. parameter_text z.kind z.place Y) (sym m))
fits forms.ParameterKindSolver v x l m = (tt, λ Y. ap (λ z. parameter_text z.kind z.place Y) (sym m))
fits forms.ParameterKindLocalSolver v x l m = (tt, λ Y. ap (λ z. parameter_text z.kind z.place Y) (sym m))
fits forms.ParameterKindConstraintSystem v x l m = (tt, λ Y. ap (λ z. parameter_text z.kind z.place Y) (sym m))
fits forms.ParameterKindBestMonitor v x l m = (tt, λ Y. ap (λ z. parameter_text z.kind z.place Y) (sym m))
fits forms.BracketsNone v x l m = (tt, λ Y. ap (λ z. brackets_text z Y) (sym m))
fits forms.BracketsLeftBracket v x l m = (tt, λ Y. ap (λ z. brackets_text z Y) (sym m))
fits forms.TemplateNone v x l m = (tt, λ Y. ap (λ z. template_text z Y) (sym m))
fits forms.TemplateLess v x l m = (tt, λ Y. ap (λ z. template_text z Y) (sym m))
fits forms.ClassNameSolver v x l m = (tt, λ Y. ap (λ z. written_class z Y) (sym m))
fits forms.ClassNameLocalSolver v x l m = (tt, λ Y. ap (λ z. written_class z Y) (sym m))
fits forms.ClassNameConstraintSystem v x l m = (tt, λ Y. ap (λ z. written_class z Y) (sym m))
fits forms.ClassNameFunctionExpr v x l m = (tt, λ Y. ap (λ z. written_class z Y) (sym m))
fits forms.ClassNameFunctionSum v x l m = (tt, λ Y. ap (λ z. written_class z Y) (sym m))
fits forms.ClassNameUniformDistribution v x l m = (tt, λ Y. ap (λ z. written_class z Y) (sym m))
fits forms.ClassNameInputFile v x l m = (tt, λ Y. ap (λ z. written_class z Y) (sym m))
fits forms.ClassNameMinNeighborSelector v x l m = (tt, λ Y. ap (λ z. written_class z Y) (sym m))
fits forms.ClassNameBestMonitor v x l m = (tt, λ Y. ap (λ z. written_class z Y) (sym m))
fits forms.ClassNameSolution v x l m = (tt, λ Y. ap (λ z. written_class z Y) (sym m))
