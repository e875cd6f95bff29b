use Rattle.std.specs.Prelude.{IfOk, Result, ◌≡◌}
use Rattle.std.proofs.Common.{subst, sym}
use Rattle.cbl_base.specs.declared.faults.NoMemory.{NoMemory}
use Rattle.parse_machine.specs.declared.form.ProgramForm.{ProgramForm}
use Rattle.parse_stacks.specs.declared.stacks.Stacks.{Stacks}
use Rattle.build_declarations.specs.MadePrograms.{IsReady, IsUndone}
use Rattle.build_declarations.proofs.programs.undo_program.Goals as goal

-- what is said of the form in a branch
ready : (s : Stacks) {f g : ProgramForm} → f ≡ g → IsReady f s → IsReady g s
ready s e h = subst (λ z. IsReady z s) e h

undone : (a b : Stacks) (r : Result (Unit {0}) NoMemory) {f g : ProgramForm} → f ≡ g → IfOk r (λ _. IsUndone g a b) → IfOk r (λ _. IsUndone f a b)
undone a b r e h = subst (λ z. IfOk r (λ _. IsUndone z a b)) (sym e) h

pub undo_top-requires : goal.undo_top-requires
undo_top-requires c = ready c.args.stacks.now c.in-ProgramTop.is c.requires

pub undo_import-requires : goal.undo_import-requires
undo_import-requires c = ready c.args.stacks.now c.in-TopImport.is c.requires

pub undo_include-requires : goal.undo_include-requires
undo_include-requires c = ready c.args.stacks.now c.in-TopInclude.is c.requires

pub undo_function-requires : goal.undo_function-requires
undo_function-requires c = ready c.args.stacks.now c.in-TopFunction.is c.requires

pub undo_statement_part-requires : goal.undo_statement_part-requires
undo_statement_part-requires c = ready c.args.stacks.now c.in-TopStatement.is c.requires

pub undo_parameters-requires : goal.undo_parameters-requires
undo_parameters-requires c = ready c.args.stacks.now c.in-ParametersParameter.is c.requires

pub undo_parameters-requires-in-ParametersTailComma : goal.undo_parameters-requires-in-ParametersTailComma
undo_parameters-requires-in-ParametersTailComma c = ready c.args.stacks.now c.in-ParametersTailComma.is c.requires

pub undo_parameter-requires : goal.undo_parameter-requires
undo_parameter-requires c = ready c.args.stacks.now c.in-ParameterParameterKind.is c.requires

pub undo_int_kind-requires : goal.undo_int_kind-requires
undo_int_kind-requires c = ready c.args.stacks.now c.in-ParameterKindInt.is c.requires

pub undo_kind-requires : goal.undo_kind-requires
undo_kind-requires c = ready c.args.stacks.now c.in-ParameterKindBool.is c.requires

pub undo_kind-requires-in-ParameterKindRange : goal.undo_kind-requires-in-ParameterKindRange
undo_kind-requires-in-ParameterKindRange c = ready c.args.stacks.now c.in-ParameterKindRange.is c.requires

pub undo_kind-requires-in-ParameterKindSet : goal.undo_kind-requires-in-ParameterKindSet
undo_kind-requires-in-ParameterKindSet c = ready c.args.stacks.now c.in-ParameterKindSet.is c.requires

pub undo_variable_kind-requires : goal.undo_variable_kind-requires
undo_variable_kind-requires c = ready c.args.stacks.now c.in-ParameterKindVar.is c.requires

pub undo_variable_kind-requires-in-ParameterKindInc : goal.undo_variable_kind-requires-in-ParameterKindInc
undo_variable_kind-requires-in-ParameterKindInc c = ready c.args.stacks.now c.in-ParameterKindInc.is c.requires

pub undo_solver_kind-requires : goal.undo_solver_kind-requires
undo_solver_kind-requires c = ready c.args.stacks.now c.in-ParameterKindSolver.is c.requires

pub undo_kind-requires-in-ParameterKindLocalSolver : goal.undo_kind-requires-in-ParameterKindLocalSolver
undo_kind-requires-in-ParameterKindLocalSolver c = ready c.args.stacks.now c.in-ParameterKindLocalSolver.is c.requires

pub undo_system_kind-requires : goal.undo_system_kind-requires
undo_system_kind-requires c = ready c.args.stacks.now c.in-ParameterKindConstraintSystem.is c.requires

pub undo_kind-requires-in-ParameterKindBestMonitor : goal.undo_kind-requires-in-ParameterKindBestMonitor
undo_kind-requires-in-ParameterKindBestMonitor c = ready c.args.stacks.now c.in-ParameterKindBestMonitor.is c.requires

pub undo_template-requires : goal.undo_template-requires
undo_template-requires c = ready c.args.stacks.now c.in-TemplateLess.is c.requires

pub undo_solver-requires : goal.undo_solver-requires
undo_solver-requires c = ready c.args.stacks.now c.in-ClassNameSolver.is c.requires

pub undo_class-requires : goal.undo_class-requires
undo_class-requires c = ready c.args.stacks.now c.in-ClassNameLocalSolver.is c.requires

pub undo_templated-requires : goal.undo_templated-requires
undo_templated-requires c = ready c.args.stacks.now c.in-ClassNameConstraintSystem.is c.requires

pub undo_templated-requires-in-ClassNameFunctionExpr : goal.undo_templated-requires-in-ClassNameFunctionExpr
undo_templated-requires-in-ClassNameFunctionExpr c = ready c.args.stacks.now c.in-ClassNameFunctionExpr.is c.requires

pub undo_templated-requires-in-ClassNameFunctionSum : goal.undo_templated-requires-in-ClassNameFunctionSum
undo_templated-requires-in-ClassNameFunctionSum c = ready c.args.stacks.now c.in-ClassNameFunctionSum.is c.requires

pub undo_class-requires-in-ClassNameUniformDistribution : goal.undo_class-requires-in-ClassNameUniformDistribution
undo_class-requires-in-ClassNameUniformDistribution c = ready c.args.stacks.now c.in-ClassNameUniformDistribution.is c.requires

pub undo_class-requires-in-ClassNameInputFile : goal.undo_class-requires-in-ClassNameInputFile
undo_class-requires-in-ClassNameInputFile c = ready c.args.stacks.now c.in-ClassNameInputFile.is c.requires

pub undo_class-requires-in-ClassNameMinNeighborSelector : goal.undo_class-requires-in-ClassNameMinNeighborSelector
undo_class-requires-in-ClassNameMinNeighborSelector c = ready c.args.stacks.now c.in-ClassNameMinNeighborSelector.is c.requires

pub undo_class-requires-in-ClassNameBestMonitor : goal.undo_class-requires-in-ClassNameBestMonitor
undo_class-requires-in-ClassNameBestMonitor c = ready c.args.stacks.now c.in-ClassNameBestMonitor.is c.requires

pub undo_class-requires-in-ClassNameSolution : goal.undo_class-requires-in-ClassNameSolution
undo_class-requires-in-ClassNameSolution c = ready c.args.stacks.now c.in-ClassNameSolution.is c.requires

pub returns-in-ProgramNone : goal.returns-in-ProgramNone
returns-in-ProgramNone c = undone c.args.stacks.now c.undo_no_tops.new.stacks c.undo_no_tops.result c.in-ProgramNone.is c.undo_no_tops.ensures

pub returns-in-ProgramTop : goal.returns-in-ProgramTop
returns-in-ProgramTop c = undone c.args.stacks.now c.undo_top.new.stacks c.undo_top.result c.in-ProgramTop.is c.undo_top.ensures

pub returns-in-TopImport : goal.returns-in-TopImport
returns-in-TopImport c = undone c.args.stacks.now c.undo_import.new.stacks c.undo_import.result c.in-TopImport.is c.undo_import.ensures

pub returns-in-TopInclude : goal.returns-in-TopInclude
returns-in-TopInclude c = undone c.args.stacks.now c.undo_include.new.stacks c.undo_include.result c.in-TopInclude.is c.undo_include.ensures

pub returns-in-TopFunction : goal.returns-in-TopFunction
returns-in-TopFunction c = undone c.args.stacks.now c.undo_function.new.stacks c.undo_function.result c.in-TopFunction.is c.undo_function.ensures

pub returns-in-TopStatement : goal.returns-in-TopStatement
returns-in-TopStatement c = undone c.args.stacks.now c.undo_statement_part.new.stacks c.undo_statement_part.result c.in-TopStatement.is c.undo_statement_part.ensures

pub returns-in-ResultKindVoid : goal.returns-in-ResultKindVoid
returns-in-ResultKindVoid c = undone c.args.stacks.now c.undo_result.new.stacks c.undo_result.result c.in-ResultKindVoid.is c.undo_result.ensures

pub returns-in-ResultKindInt : goal.returns-in-ResultKindInt
returns-in-ResultKindInt c = undone c.args.stacks.now c.undo_result-in-ResultKindInt.new.stacks c.undo_result-in-ResultKindInt.result c.in-ResultKindInt.is c.undo_result-in-ResultKindInt.ensures

pub returns-in-ResultKindBool : goal.returns-in-ResultKindBool
returns-in-ResultKindBool c = undone c.args.stacks.now c.undo_result-in-ResultKindBool.new.stacks c.undo_result-in-ResultKindBool.result c.in-ResultKindBool.is c.undo_result-in-ResultKindBool.ensures

pub returns-in-ParametersNone : goal.returns-in-ParametersNone
returns-in-ParametersNone c = undone c.args.stacks.now c.undo_no_parameters.new.stacks c.undo_no_parameters.result c.in-ParametersNone.is c.undo_no_parameters.ensures

pub returns-in-ParametersParameter : goal.returns-in-ParametersParameter
returns-in-ParametersParameter c = undone c.args.stacks.now c.undo_parameters.new.stacks c.undo_parameters.result c.in-ParametersParameter.is c.undo_parameters.ensures

pub returns-in-ParametersTailNone : goal.returns-in-ParametersTailNone
returns-in-ParametersTailNone c = undone c.args.stacks.now c.undo_no_parameters-in-ParametersTailNone.new.stacks c.undo_no_parameters-in-ParametersTailNone.result c.in-ParametersTailNone.is c.undo_no_parameters-in-ParametersTailNone.ensures

pub returns-in-ParametersTailComma : goal.returns-in-ParametersTailComma
returns-in-ParametersTailComma c = undone c.args.stacks.now c.undo_parameters-in-ParametersTailComma.new.stacks c.undo_parameters-in-ParametersTailComma.result c.in-ParametersTailComma.is c.undo_parameters-in-ParametersTailComma.ensures

pub returns-in-ParameterParameterKind : goal.returns-in-ParameterParameterKind
returns-in-ParameterParameterKind c = undone c.args.stacks.now c.undo_parameter.new.stacks c.undo_parameter.result c.in-ParameterParameterKind.is c.undo_parameter.ensures

pub returns-in-ParameterKindInt : goal.returns-in-ParameterKindInt
returns-in-ParameterKindInt c = undone c.args.stacks.now c.undo_int_kind.new.stacks c.undo_int_kind.result c.in-ParameterKindInt.is c.undo_int_kind.ensures

pub returns-in-ParameterKindBool : goal.returns-in-ParameterKindBool
returns-in-ParameterKindBool c = undone c.args.stacks.now c.undo_kind.new.stacks c.undo_kind.result c.in-ParameterKindBool.is c.undo_kind.ensures

pub returns-in-ParameterKindRange : goal.returns-in-ParameterKindRange
returns-in-ParameterKindRange c = undone c.args.stacks.now c.undo_kind-in-ParameterKindRange.new.stacks c.undo_kind-in-ParameterKindRange.result c.in-ParameterKindRange.is c.undo_kind-in-ParameterKindRange.ensures

pub returns-in-ParameterKindSet : goal.returns-in-ParameterKindSet
returns-in-ParameterKindSet c = undone c.args.stacks.now c.undo_kind-in-ParameterKindSet.new.stacks c.undo_kind-in-ParameterKindSet.result c.in-ParameterKindSet.is c.undo_kind-in-ParameterKindSet.ensures

pub returns-in-ParameterKindVar : goal.returns-in-ParameterKindVar
returns-in-ParameterKindVar c = undone c.args.stacks.now c.undo_variable_kind.new.stacks c.undo_variable_kind.result c.in-ParameterKindVar.is c.undo_variable_kind.ensures

pub returns-in-ParameterKindInc : goal.returns-in-ParameterKindInc
returns-in-ParameterKindInc c = undone c.args.stacks.now c.undo_variable_kind-in-ParameterKindInc.new.stacks c.undo_variable_kind-in-ParameterKindInc.result c.in-ParameterKindInc.is c.undo_variable_kind-in-ParameterKindInc.ensures

pub returns-in-ParameterKindSolver : goal.returns-in-ParameterKindSolver
returns-in-ParameterKindSolver c = undone c.args.stacks.now c.undo_solver_kind.new.stacks c.undo_solver_kind.result c.in-ParameterKindSolver.is c.undo_solver_kind.ensures

pub returns-in-ParameterKindLocalSolver : goal.returns-in-ParameterKindLocalSolver
returns-in-ParameterKindLocalSolver c = undone c.args.stacks.now c.undo_kind-in-ParameterKindLocalSolver.new.stacks c.undo_kind-in-ParameterKindLocalSolver.result c.in-ParameterKindLocalSolver.is c.undo_kind-in-ParameterKindLocalSolver.ensures

pub returns-in-ParameterKindConstraintSystem : goal.returns-in-ParameterKindConstraintSystem
returns-in-ParameterKindConstraintSystem c = undone c.args.stacks.now c.undo_system_kind.new.stacks c.undo_system_kind.result c.in-ParameterKindConstraintSystem.is c.undo_system_kind.ensures

pub returns-in-ParameterKindBestMonitor : goal.returns-in-ParameterKindBestMonitor
returns-in-ParameterKindBestMonitor c = undone c.args.stacks.now c.undo_kind-in-ParameterKindBestMonitor.new.stacks c.undo_kind-in-ParameterKindBestMonitor.result c.in-ParameterKindBestMonitor.is c.undo_kind-in-ParameterKindBestMonitor.ensures

pub returns-in-BracketsNone : goal.returns-in-BracketsNone
returns-in-BracketsNone c = undone c.args.stacks.now c.undo_brackets.new.stacks c.undo_brackets.result c.in-BracketsNone.is c.undo_brackets.ensures

pub returns-in-BracketsLeftBracket : goal.returns-in-BracketsLeftBracket
returns-in-BracketsLeftBracket c = undone c.args.stacks.now c.undo_brackets-in-BracketsLeftBracket.new.stacks c.undo_brackets-in-BracketsLeftBracket.result c.in-BracketsLeftBracket.is c.undo_brackets-in-BracketsLeftBracket.ensures

pub returns-in-TemplateNone : goal.returns-in-TemplateNone
returns-in-TemplateNone c = undone c.args.stacks.now c.undo_no_template.new.stacks c.undo_no_template.result c.in-TemplateNone.is c.undo_no_template.ensures

pub returns-in-TemplateLess : goal.returns-in-TemplateLess
returns-in-TemplateLess c = undone c.args.stacks.now c.undo_template.new.stacks c.undo_template.result c.in-TemplateLess.is c.undo_template.ensures

pub returns-in-ClassNameSolver : goal.returns-in-ClassNameSolver
returns-in-ClassNameSolver c = undone c.args.stacks.now c.undo_solver.new.stacks c.undo_solver.result c.in-ClassNameSolver.is c.undo_solver.ensures

pub returns-in-ClassNameLocalSolver : goal.returns-in-ClassNameLocalSolver
returns-in-ClassNameLocalSolver c = undone c.args.stacks.now c.undo_class.new.stacks c.undo_class.result c.in-ClassNameLocalSolver.is c.undo_class.ensures

pub returns-in-ClassNameConstraintSystem : goal.returns-in-ClassNameConstraintSystem
returns-in-ClassNameConstraintSystem c = undone c.args.stacks.now c.undo_templated.new.stacks c.undo_templated.result c.in-ClassNameConstraintSystem.is c.undo_templated.ensures

pub returns-in-ClassNameFunctionExpr : goal.returns-in-ClassNameFunctionExpr
returns-in-ClassNameFunctionExpr c = undone c.args.stacks.now c.undo_templated-in-ClassNameFunctionExpr.new.stacks c.undo_templated-in-ClassNameFunctionExpr.result c.in-ClassNameFunctionExpr.is c.undo_templated-in-ClassNameFunctionExpr.ensures

pub returns-in-ClassNameFunctionSum : goal.returns-in-ClassNameFunctionSum
returns-in-ClassNameFunctionSum c = undone c.args.stacks.now c.undo_templated-in-ClassNameFunctionSum.new.stacks c.undo_templated-in-ClassNameFunctionSum.result c.in-ClassNameFunctionSum.is c.undo_templated-in-ClassNameFunctionSum.ensures

pub returns-in-ClassNameUniformDistribution : goal.returns-in-ClassNameUniformDistribution
returns-in-ClassNameUniformDistribution c = undone c.args.stacks.now c.undo_class-in-ClassNameUniformDistribution.new.stacks c.undo_class-in-ClassNameUniformDistribution.result c.in-ClassNameUniformDistribution.is c.undo_class-in-ClassNameUniformDistribution.ensures

pub returns-in-ClassNameInputFile : goal.returns-in-ClassNameInputFile
returns-in-ClassNameInputFile c = undone c.args.stacks.now c.undo_class-in-ClassNameInputFile.new.stacks c.undo_class-in-ClassNameInputFile.result c.in-ClassNameInputFile.is c.undo_class-in-ClassNameInputFile.ensures

pub returns-in-ClassNameMinNeighborSelector : goal.returns-in-ClassNameMinNeighborSelector
returns-in-ClassNameMinNeighborSelector c = undone c.args.stacks.now c.undo_class-in-ClassNameMinNeighborSelector.new.stacks c.undo_class-in-ClassNameMinNeighborSelector.result c.in-ClassNameMinNeighborSelector.is c.undo_class-in-ClassNameMinNeighborSelector.ensures

pub returns-in-ClassNameBestMonitor : goal.returns-in-ClassNameBestMonitor
returns-in-ClassNameBestMonitor c = undone c.args.stacks.now c.undo_class-in-ClassNameBestMonitor.new.stacks c.undo_class-in-ClassNameBestMonitor.result c.in-ClassNameBestMonitor.is c.undo_class-in-ClassNameBestMonitor.ensures

pub returns-in-ClassNameSolution : goal.returns-in-ClassNameSolution
returns-in-ClassNameSolution c = undone c.args.stacks.now c.undo_class-in-ClassNameSolution.new.stacks c.undo_class-in-ClassNameSolution.result c.in-ClassNameSolution.is c.undo_class-in-ClassNameSolution.ensures
