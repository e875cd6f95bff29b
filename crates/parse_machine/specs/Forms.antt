-- Of which part a form is, and of which symbols it consists.
-- Definitions of this project.
use Rattle.std.specs.Prelude.{List, []}
use Rattle.comet_syntax.specs.Grammar.Symbols as grammar
use Rattle.comet_syntax.specs.Grammar.Symbols.{Part, Symbol}
use Rattle.comet_syntax.specs.Grammar.Programs as programs
use Rattle.comet_syntax.specs.Grammar.Statements as statements
use Rattle.comet_syntax.specs.Grammar.Declarations as declarations
use Rattle.comet_syntax.specs.Grammar.Expressions as expressions
use Rattle.parse_machine.specs.declared.form.Form.{Form}
use Rattle.parse_machine.specs.declared.form.Form.TheVariants as forms
use Rattle.parse_machine.specs.declared.form.ProgramForm.{ProgramForm}
use Rattle.parse_machine.specs.declared.form.ProgramForm.TheVariants as program_forms
use Rattle.parse_machine.specs.declared.form.StatementForm.{StatementForm}
use Rattle.parse_machine.specs.declared.form.StatementForm.TheVariants as statement_forms
use Rattle.parse_machine.specs.declared.form.DeclarationForm.{DeclarationForm}
use Rattle.parse_machine.specs.declared.form.DeclarationForm.TheVariants as declaration_forms
use Rattle.parse_machine.specs.declared.form.ExpressionForm.{ExpressionForm}
use Rattle.parse_machine.specs.declared.form.ExpressionForm.TheVariants as expression_forms

-- a form of the programs
abbrev pub program_form : ProgramForm → Part × List Symbol
program_form program_forms.ProgramNone = (grammar.program, [])
program_form program_forms.ProgramTop = (grammar.program, programs.program_top)
program_form program_forms.TopImport = (grammar.top, programs.top_import)
program_form program_forms.TopInclude = (grammar.top, programs.top_include)
program_form program_forms.TopFunction = (grammar.top, programs.top_function)
program_form program_forms.TopStatement = (grammar.top, programs.top_statement)
program_form program_forms.ResultKindVoid = (grammar.result_kind, programs.result_kind_void)
program_form program_forms.ResultKindInt = (grammar.result_kind, programs.result_kind_int)
program_form program_forms.ResultKindBool = (grammar.result_kind, programs.result_kind_bool)
program_form program_forms.ParametersNone = (grammar.parameters, [])
program_form program_forms.ParametersParameter = (grammar.parameters, programs.parameters_parameter)
program_form program_forms.ParametersTailNone = (grammar.parameters_tail, [])
program_form program_forms.ParametersTailComma = (grammar.parameters_tail, programs.parameters_tail_comma)
program_form program_forms.ParameterParameterKind = (grammar.parameter, programs.parameter_parameter_kind)
program_form program_forms.ParameterKindInt = (grammar.parameter_kind, programs.parameter_kind_int)
program_form program_forms.ParameterKindBool = (grammar.parameter_kind, programs.parameter_kind_bool)
program_form program_forms.ParameterKindRange = (grammar.parameter_kind, programs.parameter_kind_range)
program_form program_forms.ParameterKindSet = (grammar.parameter_kind, programs.parameter_kind_set)
program_form program_forms.ParameterKindVar = (grammar.parameter_kind, programs.parameter_kind_var)
program_form program_forms.ParameterKindInc = (grammar.parameter_kind, programs.parameter_kind_inc)
program_form program_forms.ParameterKindSolver = (grammar.parameter_kind, programs.parameter_kind_solver)
program_form program_forms.ParameterKindLocalSolver = (grammar.parameter_kind, programs.parameter_kind_local_solver)
program_form program_forms.ParameterKindConstraintSystem = (grammar.parameter_kind, programs.parameter_kind_constraint_system)
program_form program_forms.ParameterKindBestMonitor = (grammar.parameter_kind, programs.parameter_kind_best_monitor)
program_form program_forms.BracketsNone = (grammar.brackets, [])
program_form program_forms.BracketsLeftBracket = (grammar.brackets, programs.brackets_left_bracket)
program_form program_forms.TemplateNone = (grammar.template, [])
program_form program_forms.TemplateLess = (grammar.template, programs.template_less)
program_form program_forms.ClassNameSolver = (grammar.class_name, programs.class_name_solver)
program_form program_forms.ClassNameLocalSolver = (grammar.class_name, programs.class_name_local_solver)
program_form program_forms.ClassNameConstraintSystem = (grammar.class_name, programs.class_name_constraint_system)
program_form program_forms.ClassNameFunctionExpr = (grammar.class_name, programs.class_name_function_expr)
program_form program_forms.ClassNameFunctionSum = (grammar.class_name, programs.class_name_function_sum)
program_form program_forms.ClassNameUniformDistribution = (grammar.class_name, programs.class_name_uniform_distribution)
program_form program_forms.ClassNameInputFile = (grammar.class_name, programs.class_name_input_file)
program_form program_forms.ClassNameMinNeighborSelector = (grammar.class_name, programs.class_name_min_neighbor_selector)
program_form program_forms.ClassNameBestMonitor = (grammar.class_name, programs.class_name_best_monitor)
program_form program_forms.ClassNameSolution = (grammar.class_name, programs.class_name_solution)

-- a form of the statements
abbrev pub statement_form : StatementForm → Part × List Symbol
statement_form statement_forms.BlockLeftBrace = (grammar.block, statements.block_left_brace)
statement_form statement_forms.StatementsNone = (grammar.statements, [])
statement_form statement_forms.StatementsStatement = (grammar.statements, statements.statements_statement)
statement_form statement_forms.StatementBlock = (grammar.statement, statements.statement_block)
statement_form statement_forms.StatementSemicolon = (grammar.statement, statements.statement_semicolon)
statement_form statement_forms.StatementDeclaration = (grammar.statement, statements.statement_declaration)
statement_form statement_forms.StatementSimple = (grammar.statement, statements.statement_simple)
statement_form statement_forms.StatementReturn = (grammar.statement, statements.statement_return)
statement_form statement_forms.StatementIf = (grammar.statement, statements.statement_if)
statement_form statement_forms.StatementWhile = (grammar.statement, statements.statement_while)
statement_form statement_forms.StatementFor = (grammar.statement, statements.statement_for)
statement_form statement_forms.StatementForAll = (grammar.statement, statements.statement_for_all)
statement_form statement_forms.StatementSelect = (grammar.statement, statements.statement_select)
statement_form statement_forms.StatementSelectMin = (grammar.statement, statements.statement_select_min)
statement_form statement_forms.StatementSelectMax = (grammar.statement, statements.statement_select_max)
statement_form statement_forms.StatementNeighbor = (grammar.statement, statements.statement_neighbor)
statement_form statement_forms.StatementWhenever = (grammar.statement, statements.statement_whenever)
statement_form statement_forms.StatementWith = (grammar.statement, statements.statement_with)
statement_form statement_forms.StatementParall = (grammar.statement, statements.statement_parall)
statement_form statement_forms.OtherwiseNone = (grammar.otherwise, [])
statement_form statement_forms.OtherwiseElse = (grammar.otherwise, statements.otherwise_else)
statement_form statement_forms.OptionalValueNone = (grammar.optional_value, [])
statement_form statement_forms.OptionalValueExpression = (grammar.optional_value, statements.optional_value_expression)
statement_form statement_forms.ForStartNone = (grammar.for_start, [])
statement_form statement_forms.ForStartInt = (grammar.for_start, statements.for_start_int)
statement_form statement_forms.ForStepNone = (grammar.for_step, [])
statement_form statement_forms.ForStepSimple = (grammar.for_step, statements.for_step_simple)
statement_form statement_forms.EventsNone = (grammar.events, [])
statement_form statement_forms.EventsInt = (grammar.events, statements.events_int)
statement_form statement_forms.WithModeAtomic = (grammar.with_mode, statements.with_mode_atomic)
statement_form statement_forms.WithModeDelay = (grammar.with_mode, statements.with_mode_delay)
statement_form statement_forms.GeneratorsGenerator = (grammar.generators, statements.generators_generator)
statement_form statement_forms.GeneratorsTailNone = (grammar.generators_tail, [])
statement_form statement_forms.GeneratorsTailComma = (grammar.generators_tail, statements.generators_tail_comma)
statement_form statement_forms.ConditionNone = (grammar.condition, [])
statement_form statement_forms.ConditionColon = (grammar.condition, statements.condition_colon)
statement_form statement_forms.GeneratorName = (grammar.generator, statements.generator_name)
statement_form statement_forms.SimpleFirstName = (grammar.simple, statements.simple_first_name)
statement_form statement_forms.SimpleLiteral = (grammar.simple, statements.simple_literal)
statement_form statement_forms.SimpleExtreme = (grammar.simple, statements.simple_extreme)
statement_form statement_forms.SimpleCout = (grammar.simple, statements.simple_cout)
statement_form statement_forms.SimpleCall = (grammar.simple, statements.simple_call)
statement_form statement_forms.NamedSimpleEqual = (grammar.named_simple, statements.named_simple_equal)
statement_form statement_forms.NamedSimpleCalled = (grammar.named_simple, statements.named_simple_called)
statement_form statement_forms.NewValueNew = (grammar.new_value, statements.new_value_new)
statement_form statement_forms.NewValueExpression = (grammar.new_value, statements.new_value_expression)
statement_form statement_forms.WriteNone = (grammar.write, [])
statement_form statement_forms.WriteEqual = (grammar.write, statements.write_equal)
statement_form statement_forms.WritePlusEqual = (grammar.write, statements.write_plus_equal)
statement_form statement_forms.WriteMinusEqual = (grammar.write, statements.write_minus_equal)
statement_form statement_forms.WriteAssign = (grammar.write, statements.write_assign)
statement_form statement_forms.WriteArrow = (grammar.write, statements.write_arrow)
statement_form statement_forms.WriteSwap = (grammar.write, statements.write_swap)
statement_form statement_forms.WritePlusPlus = (grammar.write, statements.write_plus_plus)
statement_form statement_forms.WriteMinusMinus = (grammar.write, statements.write_minus_minus)
statement_form statement_forms.FirstNameName = (grammar.first_name, statements.first_name_name)
statement_form statement_forms.ItemExpression = (grammar.item, statements.item_expression)
statement_form statement_forms.ItemString = (grammar.item, statements.item_string)
statement_form statement_forms.ItemEndl = (grammar.item, statements.item_endl)
statement_form statement_forms.ItemsTailNone = (grammar.items_tail, [])
statement_form statement_forms.ItemsTailLessLess = (grammar.items_tail, statements.items_tail_less_less)

-- a form of the declarations
abbrev pub declaration_form : DeclarationForm → Part × List Symbol
declaration_form declaration_forms.DeclarationInt = (grammar.declaration, declarations.declaration_int)
declaration_form declaration_forms.DeclarationBool = (grammar.declaration, declarations.declaration_bool)
declaration_form declaration_forms.DeclarationRange = (grammar.declaration, declarations.declaration_range)
declaration_form declaration_forms.DeclarationSet = (grammar.declaration, declarations.declaration_set)
declaration_form declaration_forms.DeclarationVar = (grammar.declaration, declarations.declaration_var)
declaration_form declaration_forms.DeclarationInc = (grammar.declaration, declarations.declaration_inc)
declaration_form declaration_forms.DeclarationClassName = (grammar.declaration, declarations.declaration_class_name)
declaration_form declaration_forms.IntRestLeftBracket = (grammar.int_rest, declarations.int_rest_left_bracket)
declaration_form declaration_forms.IntRestName = (grammar.int_rest, declarations.int_rest_name)
declaration_form declaration_forms.StartValueNone = (grammar.start_value, [])
declaration_form declaration_forms.StartValueEqual = (grammar.start_value, declarations.start_value_equal)
declaration_form declaration_forms.VariableRestInt = (grammar.variable_rest, declarations.variable_rest_int)
declaration_form declaration_forms.VariableRestSet = (grammar.variable_rest, declarations.variable_rest_set)
declaration_form declaration_forms.DomainNone = (grammar.domain, [])
declaration_form declaration_forms.DomainComma = (grammar.domain, declarations.domain_comma)
declaration_form declaration_forms.VariableStartNone = (grammar.variable_start, [])
declaration_form declaration_forms.VariableStartAssign = (grammar.variable_start, declarations.variable_start_assign)
declaration_form declaration_forms.VariableStartArrow = (grammar.variable_start, declarations.variable_start_arrow)
declaration_form declaration_forms.MakerLeftParenthesis = (grammar.maker, declarations.maker_left_parenthesis)
declaration_form declaration_forms.MakerEqual = (grammar.maker, declarations.maker_equal)
declaration_form declaration_forms.DimensionsNone = (grammar.dimensions, [])
declaration_form declaration_forms.DimensionsLeftBracket = (grammar.dimensions, declarations.dimensions_left_bracket)
declaration_form declaration_forms.DimensionsTailNone = (grammar.dimensions_tail, [])
declaration_form declaration_forms.DimensionsTailComma = (grammar.dimensions_tail, declarations.dimensions_tail_comma)
declaration_form declaration_forms.DimensionName = (grammar.dimension, declarations.dimension_name)
declaration_form declaration_forms.DimensionUnnamed = (grammar.dimension, declarations.dimension_unnamed)
declaration_form declaration_forms.DimensionRestIn = (grammar.dimension_rest, declarations.dimension_rest_in)
declaration_form declaration_forms.DimensionRestCalled = (grammar.dimension_rest, declarations.dimension_rest_called)

-- a form of the expressions
abbrev pub expression_form : ExpressionForm → Part × List Symbol
expression_form expression_forms.ExpressionOperand = (grammar.expression, expressions.expression_operand)
expression_form expression_forms.BranchesNone = (grammar.branches, [])
expression_form expression_forms.BranchesQuestion = (grammar.branches, expressions.branches_question)
expression_form expression_forms.OrTailNone = (grammar.or_tail, [])
expression_form expression_forms.OrTailOrOr = (grammar.or_tail, expressions.or_tail_or_or)
expression_form expression_forms.AndTailNone = (grammar.and_tail, [])
expression_form expression_forms.AndTailAndAnd = (grammar.and_tail, expressions.and_tail_and_and)
expression_form expression_forms.ComparisonTailNone = (grammar.comparison_tail, [])
expression_form expression_forms.ComparisonTailEqualEqual = (grammar.comparison_tail, expressions.comparison_tail_equal_equal)
expression_form expression_forms.ComparisonTailNotEqual = (grammar.comparison_tail, expressions.comparison_tail_not_equal)
expression_form expression_forms.ComparisonTailLess = (grammar.comparison_tail, expressions.comparison_tail_less)
expression_form expression_forms.ComparisonTailLessEqual = (grammar.comparison_tail, expressions.comparison_tail_less_equal)
expression_form expression_forms.ComparisonTailGreater = (grammar.comparison_tail, expressions.comparison_tail_greater)
expression_form expression_forms.ComparisonTailGreaterEqual = (grammar.comparison_tail, expressions.comparison_tail_greater_equal)
expression_form expression_forms.RangeTailNone = (grammar.range_tail, [])
expression_form expression_forms.RangeTailDotDot = (grammar.range_tail, expressions.range_tail_dot_dot)
expression_form expression_forms.TotalTailNone = (grammar.total_tail, [])
expression_form expression_forms.TotalTailPlus = (grammar.total_tail, expressions.total_tail_plus)
expression_form expression_forms.TotalTailMinus = (grammar.total_tail, expressions.total_tail_minus)
expression_form expression_forms.ProductTailNone = (grammar.product_tail, [])
expression_form expression_forms.ProductTailStar = (grammar.product_tail, expressions.product_tail_star)
expression_form expression_forms.ProductTailSlash = (grammar.product_tail, expressions.product_tail_slash)
expression_form expression_forms.ProductTailPercent = (grammar.product_tail, expressions.product_tail_percent)
expression_form expression_forms.OperandName = (grammar.operand, expressions.operand_name)
expression_form expression_forms.OperandUnnamed = (grammar.operand, expressions.operand_unnamed)
expression_form expression_forms.UnnamedLiteral = (grammar.unnamed, expressions.unnamed_literal)
expression_form expression_forms.UnnamedLeftBrace = (grammar.unnamed, expressions.unnamed_left_brace)
expression_form expression_forms.UnnamedMin = (grammar.unnamed, expressions.unnamed_min)
expression_form expression_forms.UnnamedMax = (grammar.unnamed, expressions.unnamed_max)
expression_form expression_forms.UnnamedMinus = (grammar.unnamed, expressions.unnamed_minus)
expression_form expression_forms.UnnamedExclamation = (grammar.unnamed, expressions.unnamed_exclamation)
expression_form expression_forms.UnnamedSum = (grammar.unnamed, expressions.unnamed_sum)
expression_form expression_forms.UnnamedAll = (grammar.unnamed, expressions.unnamed_all)
expression_form expression_forms.UnnamedAnd = (grammar.unnamed, expressions.unnamed_and)
expression_form expression_forms.UnnamedOr = (grammar.unnamed, expressions.unnamed_or)
expression_form expression_forms.UnnamedSetOf = (grammar.unnamed, expressions.unnamed_set_of)
expression_form expression_forms.UnnamedArgMin = (grammar.unnamed, expressions.unnamed_arg_min)
expression_form expression_forms.UnnamedArgMax = (grammar.unnamed, expressions.unnamed_arg_max)
expression_form expression_forms.PairFirstName = (grammar.pair, expressions.pair_first_name)
expression_form expression_forms.PairUnnamed = (grammar.pair, expressions.pair_unnamed)
expression_form expression_forms.PairNamedIn = (grammar.pair_named, expressions.pair_named_in)
expression_form expression_forms.PairNamedCalled = (grammar.pair_named, expressions.pair_named_called)
expression_form expression_forms.LiteralNumber = (grammar.literal, expressions.literal_number)
expression_form expression_forms.LiteralTrue = (grammar.literal, expressions.literal_true)
expression_form expression_forms.LiteralFalse = (grammar.literal, expressions.literal_false)
expression_form expression_forms.LiteralLeftParenthesis = (grammar.literal, expressions.literal_left_parenthesis)
expression_form expression_forms.LiteralLeftBracket = (grammar.literal, expressions.literal_left_bracket)
expression_form expression_forms.ExtremeMin = (grammar.extreme, expressions.extreme_min)
expression_form expression_forms.ExtremeMax = (grammar.extreme, expressions.extreme_max)
expression_form expression_forms.PostfixName = (grammar.postfix, expressions.postfix_name)
expression_form expression_forms.PostfixLiteral = (grammar.postfix, expressions.postfix_literal)
expression_form expression_forms.PostfixLeftBrace = (grammar.postfix, expressions.postfix_left_brace)
expression_form expression_forms.PostfixExtreme = (grammar.postfix, expressions.postfix_extreme)
expression_form expression_forms.CalledNone = (grammar.called, [])
expression_form expression_forms.CalledLeftParenthesis = (grammar.called, expressions.called_left_parenthesis)
expression_form expression_forms.SuffixesNone = (grammar.suffixes, [])
expression_form expression_forms.SuffixesLeftBracket = (grammar.suffixes, expressions.suffixes_left_bracket)
expression_form expression_forms.SuffixesDot = (grammar.suffixes, expressions.suffixes_dot)
expression_form expression_forms.SecondNone = (grammar.second, [])
expression_form expression_forms.SecondComma = (grammar.second, expressions.second_comma)
expression_form expression_forms.ArgumentsNone = (grammar.arguments, [])
expression_form expression_forms.ArgumentsListed = (grammar.arguments, expressions.arguments_listed)
expression_form expression_forms.ListedArgument = (grammar.listed, expressions.listed_argument)
expression_form expression_forms.ArgumentsTailNone = (grammar.arguments_tail, [])
expression_form expression_forms.ArgumentsTailComma = (grammar.arguments_tail, expressions.arguments_tail_comma)
expression_form expression_forms.ArgumentExpression = (grammar.argument, expressions.argument_expression)
expression_form expression_forms.ArgumentString = (grammar.argument, expressions.argument_string)

abbrev pub part_in_program : ProgramForm → Part
part_in_program f = (program_form f).0

abbrev pub part_in_statement : StatementForm → Part
part_in_statement f = (statement_form f).0

abbrev pub part_in_declaration : DeclarationForm → Part
part_in_declaration f = (declaration_form f).0

abbrev pub part_in_expression : ExpressionForm → Part
part_in_expression f = (expression_form f).0

abbrev pub body_in_program : ProgramForm → List Symbol
body_in_program f = (program_form f).1

abbrev pub body_in_statement : StatementForm → List Symbol
body_in_statement f = (statement_form f).1

abbrev pub body_in_declaration : DeclarationForm → List Symbol
body_in_declaration f = (declaration_form f).1

abbrev pub body_in_expression : ExpressionForm → List Symbol
body_in_expression f = (expression_form f).1

abbrev pub part_in : Form → Part
part_in (forms.Program f) = part_in_program f
part_in (forms.Statement f) = part_in_statement f
part_in (forms.Declaration f) = part_in_declaration f
part_in (forms.Expression f) = part_in_expression f

abbrev pub body_in : Form → List Symbol
body_in (forms.Program f) = body_in_program f
body_in (forms.Statement f) = body_in_statement f
body_in (forms.Declaration f) = body_in_declaration f
body_in (forms.Expression f) = body_in_expression f
