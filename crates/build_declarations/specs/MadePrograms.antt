-- What each form of programs, of parameters and of classes makes of the values of its symbols.
-- Definitions of this project.
use Rattle.std.specs.Prelude.{Bool, true, false, List, [], ◌∷◌, Option, None, Some, reverse, ◌≡◌}
use Rattle.cbl_base.specs.declared.place.Place.{Place}
use Rattle.comet_syntax.specs.declared.tree.declarations.ClassKind.{ClassKind}
use Rattle.comet_syntax.specs.declared.tree.declarations.ClassKind.TheVariants as classes
use Rattle.comet_syntax.specs.declared.tree.declarations.Incremental.{Incremental}
use Rattle.comet_syntax.specs.declared.tree.declarations.Incremental.TheVariants as incrementals
use Rattle.comet_syntax.specs.declared.tree.expressions.Name.{Name}
use Rattle.comet_syntax.specs.declared.tree.program.Function.{Function}
use Rattle.comet_syntax.specs.declared.tree.program.Parameter.{Parameter}
use Rattle.comet_syntax.specs.declared.tree.program.ParameterKind.{ParameterKind}
use Rattle.comet_syntax.specs.declared.tree.program.ParameterKind.TheVariants as kinds
use Rattle.comet_syntax.specs.declared.tree.program.ResultKind.{ResultKind}
use Rattle.comet_syntax.specs.declared.tree.program.ResultKind.TheVariants as results
use Rattle.comet_syntax.specs.declared.tree.program.TopPart.{TopPart}
use Rattle.comet_syntax.specs.declared.tree.program.TopPart.TheVariants as tops
use Rattle.comet_syntax.specs.declared.tree.statements.Block.{Block}
use Rattle.parse_machine.specs.Forms.{part_in_program, body_in_program}
use Rattle.parse_machine.specs.declared.form.ProgramForm.{ProgramForm}
use Rattle.parse_machine.specs.declared.form.ProgramForm.TheVariants as forms
use Rattle.parse_stacks.specs.Undoing.{Values, Ready, Undone}
use Rattle.parse_stacks.specs.Values.{Value}
use Rattle.parse_stacks.specs.declared.stacks.Stacks.{Stacks}
use Rattle.build_declarations.specs.declared.classes.Templated.{Templated}
use Rattle.build_declarations.specs.declared.classes.Templated.TheVariants as templated

-- `function result name(parameters) body`
pub record IsFunction (place : Place) (result : ResultKind) (name : Name) (parameters : List Parameter) (body : Block) (f : Function) : Type 0 where
  pub place_is : f.place ≡ place
  pub result_is : f.result ≡ result
  pub name_is : f.name ≡ name
  pub parameters_are : f.parameters.items ≡ parameters
  pub body_is : f.body ≡ body

abbrev pub IsFunctionPart : Place → ResultKind → Name → List Parameter → Block → TopPart → Type 0
IsFunctionPart place result name parameters body (tops.Function f) = IsFunction place result name parameters body f.value
IsFunctionPart _ _ _ _ _ _ = ⊥

-- `int` or `int[]`
abbrev pub int_kind : Bool → ParameterKind
int_kind false = kinds.Int
int_kind true = kinds.IntArray

-- `var{int}` or `var{int}[]`, and the same with `inc`
abbrev pub variable_kind : Incremental → Bool → ParameterKind
variable_kind w false = kinds.Variable w
variable_kind w true = kinds.VariableArray w

-- a class that may have a name in angle brackets
abbrev pub templated_class : Templated → Option Name → ClassKind
templated_class templated.ConstraintSystem n = classes.ConstraintSystem n
templated_class templated.FunctionExpr n = classes.FunctionExpr n
templated_class templated.FunctionSum n = classes.FunctionSum n

abbrev pub Made : (f : ProgramForm) → Values (body_in_program f) → Value (part_in_program f) → Type 0
Made forms.ProgramNone v x = x.items ≡ []
Made forms.ProgramTop v x = reverse x.items ≡ v.0 ∷ reverse v.1.0.items
Made forms.TopImport v x = x ≡ tops.Import v.1.0
Made forms.TopInclude v x = x ≡ tops.Include v.1.0
Made forms.TopFunction v x = IsFunctionPart v.0 v.1.0 v.1.1.0 (reverse v.1.1.1.1.0.items) v.1.1.1.1.1.1.0 x
Made forms.TopStatement v x = x ≡ tops.Statement v.0
Made forms.ResultKindVoid v x = x ≡ results.Void
Made forms.ResultKindInt v x = x ≡ results.Int
Made forms.ResultKindBool v x = x ≡ results.Bool
Made forms.ParametersNone v x = x.items ≡ []
Made forms.ParametersParameter v x = reverse x.items ≡ v.0 ∷ reverse v.1.0.items
Made forms.ParametersTailNone v x = x.items ≡ []
Made forms.ParametersTailComma v x = reverse x.items ≡ v.1.0 ∷ reverse v.1.1.0.items
Made forms.ParameterParameterKind v x = x ≡ record { place = v.0.place; kind = v.0.kind; name = v.1.0 }
Made forms.ParameterKindInt v x = x ≡ record { kind = int_kind v.1.0; place = v.0 }
Made forms.ParameterKindBool v x = x ≡ record { kind = kinds.Bool; place = v.0 }
Made forms.ParameterKindRange v x = x ≡ record { kind = kinds.Range; place = v.0 }
Made forms.ParameterKindSet v x = x ≡ record { kind = kinds.Set; place = v.0 }
Made forms.ParameterKindVar v x = x ≡ record { kind = variable_kind incrementals.Var v.1.1.1.1.0; place = v.0 }
Made forms.ParameterKindInc v x = x ≡ record { kind = variable_kind incrementals.Inc v.1.1.1.1.0; place = v.0 }
Made forms.ParameterKindSolver v x = x ≡ record { kind = kinds.Solver v.1.1.0; place = v.0 }
Made forms.ParameterKindLocalSolver v x = x ≡ record { kind = kinds.LocalSolver; place = v.0 }
Made forms.ParameterKindConstraintSystem v x = x ≡ record { kind = kinds.ConstraintSystem v.1.0; place = v.0 }
Made forms.ParameterKindBestMonitor v x = x ≡ record { kind = kinds.BestMonitor; place = v.0 }
Made forms.BracketsNone v x = x ≡ false
Made forms.BracketsLeftBracket v x = x ≡ true
Made forms.TemplateNone v x = x ≡ None
Made forms.TemplateLess v x = x ≡ Some v.1.0
Made forms.ClassNameSolver v x = x ≡ record { place = v.0; kind = classes.Solver v.1.1.0 }
Made forms.ClassNameLocalSolver v x = x ≡ record { place = v.0; kind = classes.LocalSolver }
Made forms.ClassNameConstraintSystem v x = x ≡ record { place = v.0; kind = classes.ConstraintSystem v.1.0 }
Made forms.ClassNameFunctionExpr v x = x ≡ record { place = v.0; kind = classes.FunctionExpr v.1.0 }
Made forms.ClassNameFunctionSum v x = x ≡ record { place = v.0; kind = classes.FunctionSum v.1.0 }
Made forms.ClassNameUniformDistribution v x = x ≡ record { place = v.0; kind = classes.UniformDistribution }
Made forms.ClassNameInputFile v x = x ≡ record { place = v.0; kind = classes.InputFile }
Made forms.ClassNameMinNeighborSelector v x = x ≡ record { place = v.0; kind = classes.MinNeighborSelector }
Made forms.ClassNameBestMonitor v x = x ≡ record { place = v.0; kind = classes.BestMonitor }
Made forms.ClassNameSolution v x = x ≡ record { place = v.0; kind = classes.Solution }

-- the values of a form's symbols stand on the stacks
abbrev pub IsReady : ProgramForm → Stacks → Type 0
IsReady f stacks = Ready (body_in_program f) stacks

-- a form was undone
abbrev pub IsUndone : ProgramForm → Stacks → Stacks → Type 0
IsUndone f old new = Undone (part_in_program f) (body_in_program f) (Made f) old new
