-- The kinds of token that a part may begin with. Where a part may be left out, or has a form for all other tokens, the next token isn't of these kinds.
-- A rule of the language, which follows from its forms.
use Rattle.std.specs.Prelude.{List, [], ◌∷◌, ◌++◌}
use Rattle.comet_syntax.specs.declared.token.Word.TheVariants as words
use Rattle.comet_syntax.specs.Grammar.Kinds.{Kind, a_name, a_number, a_string, a_word}
use Rattle.comet_syntax.specs.Grammar.Symbols.{Part, program, top, result_kind, parameters, parameters_tail, parameter, parameter_kind, brackets, template, class_name, block, statements, statement, otherwise, optional_value, for_start, for_step, events, with_mode, generators, generators_tail, condition, generator, declaration, int_rest, start_value, variable_rest, domain, variable_start, maker, dimensions, dimensions_tail, dimension, dimension_rest, simple, named_simple, new_value, write, first_name, item, items_tail, expression, branches, or_tail, and_tail, comparison_tail, range_tail, total_tail, product_tail, operand, unnamed, pair, pair_named, literal, extreme, postfix, called, suffixes, second, arguments, listed, arguments_tail, argument}

abbrev pub first_literal : List Kind
first_literal = a_number ∷ a_word words.True ∷ a_word words.False ∷ a_word words.LeftParenthesis ∷ a_word words.LeftBracket ∷ []

abbrev pub first_unnamed : List Kind
first_unnamed = first_literal ++ (a_word words.LeftBrace ∷ a_word words.Min ∷ a_word words.Max ∷ a_word words.Minus ∷ a_word words.Exclamation ∷ a_word words.Sum ∷ a_word words.All ∷ a_word words.And ∷ a_word words.Or ∷ a_word words.SetOf ∷ a_word words.ArgMin ∷ a_word words.ArgMax ∷ [])

abbrev pub first_expression : List Kind
first_expression = a_name ∷ first_unnamed

abbrev pub first_argument : List Kind
first_argument = first_expression ++ (a_string ∷ [])

abbrev pub first_class : List Kind
first_class = a_word words.Solver ∷ a_word words.LocalSolver ∷ a_word words.ConstraintSystem ∷ a_word words.FunctionExpr ∷ a_word words.FunctionSum ∷ a_word words.UniformDistribution ∷ a_word words.InputFile ∷ a_word words.MinNeighborSelector ∷ a_word words.BestMonitor ∷ a_word words.Solution ∷ []

abbrev pub first_declaration : List Kind
first_declaration = a_word words.Int ∷ a_word words.Bool ∷ a_word words.Range ∷ a_word words.Set ∷ a_word words.Var ∷ a_word words.Inc ∷ first_class

abbrev pub first_simple : List Kind
first_simple = a_name ∷ (first_literal ++ (a_word words.Min ∷ a_word words.Max ∷ a_word words.Cout ∷ a_word words.Call ∷ []))

abbrev pub first_statement : List Kind
first_statement = a_word words.LeftBrace ∷ a_word words.Semicolon ∷ (first_declaration ++ (first_simple ++ (a_word words.Return ∷ a_word words.If ∷ a_word words.While ∷ a_word words.For ∷ a_word words.ForAll ∷ a_word words.Select ∷ a_word words.SelectMin ∷ a_word words.SelectMax ∷ a_word words.Neighbor ∷ a_word words.Whenever ∷ a_word words.With ∷ a_word words.Parall ∷ [])))

abbrev pub first_top : List Kind
first_top = a_word words.Import ∷ a_word words.Include ∷ a_word words.Function ∷ first_statement

abbrev pub first_parameter : List Kind
first_parameter = a_word words.Int ∷ a_word words.Bool ∷ a_word words.Range ∷ a_word words.Set ∷ a_word words.Var ∷ a_word words.Inc ∷ a_word words.Solver ∷ a_word words.LocalSolver ∷ a_word words.ConstraintSystem ∷ a_word words.BestMonitor ∷ []

abbrev pub first : Part → List Kind
first program = first_top
first top = first_top
first result_kind = a_word words.Void ∷ a_word words.Int ∷ a_word words.Bool ∷ []
first parameters = first_parameter
first parameters_tail = a_word words.Comma ∷ []
first parameter = first_parameter
first parameter_kind = first_parameter
first brackets = a_word words.LeftBracket ∷ []
first template = a_word words.Less ∷ []
first class_name = first_class
first block = a_word words.LeftBrace ∷ []
first statements = first_statement
first statement = first_statement
first otherwise = a_word words.Else ∷ []
first optional_value = first_expression
first for_start = a_word words.Int ∷ []
first for_step = first_simple
first events = a_word words.Int ∷ []
first with_mode = a_word words.Atomic ∷ a_word words.Delay ∷ []
first generators = a_name ∷ []
first generators_tail = a_word words.Comma ∷ []
first condition = a_word words.Colon ∷ []
first generator = a_name ∷ []
first declaration = first_declaration
first int_rest = a_word words.LeftBracket ∷ a_name ∷ []
first start_value = a_word words.Equal ∷ []
first variable_rest = a_word words.Int ∷ a_word words.Set ∷ []
first domain = a_word words.Comma ∷ []
first variable_start = a_word words.Assign ∷ a_word words.Arrow ∷ []
first maker = a_word words.LeftParenthesis ∷ a_word words.Equal ∷ []
first dimensions = a_word words.LeftBracket ∷ []
first dimensions_tail = a_word words.Comma ∷ []
first dimension = first_expression
first dimension_rest = a_word words.In ∷ []
first simple = first_simple
first named_simple = a_word words.Equal ∷ []
first new_value = a_word words.New ∷ first_expression
first write = a_word words.Equal ∷ a_word words.PlusEqual ∷ a_word words.MinusEqual ∷ a_word words.Assign ∷ a_word words.Arrow ∷ a_word words.Swap ∷ a_word words.PlusPlus ∷ a_word words.MinusMinus ∷ []
first first_name = a_name ∷ []
first item = first_expression ++ (a_string ∷ a_word words.Endl ∷ [])
first items_tail = a_word words.LessLess ∷ []
first expression = first_expression
first branches = a_word words.Question ∷ []
first or_tail = a_word words.OrOr ∷ []
first and_tail = a_word words.AndAnd ∷ []
first comparison_tail = a_word words.EqualEqual ∷ a_word words.NotEqual ∷ a_word words.Less ∷ a_word words.LessEqual ∷ a_word words.Greater ∷ a_word words.GreaterEqual ∷ []
first range_tail = a_word words.DotDot ∷ []
first total_tail = a_word words.Plus ∷ a_word words.Minus ∷ []
first product_tail = a_word words.Star ∷ a_word words.Slash ∷ a_word words.Percent ∷ []
first operand = first_expression
first unnamed = first_unnamed
first pair = first_expression
first pair_named = a_word words.In ∷ []
first literal = first_literal
first extreme = a_word words.Min ∷ a_word words.Max ∷ []
first postfix = a_name ∷ (first_literal ++ (a_word words.LeftBrace ∷ a_word words.Min ∷ a_word words.Max ∷ []))
first called = a_word words.LeftParenthesis ∷ []
first suffixes = a_word words.LeftBracket ∷ a_word words.Dot ∷ []
first second = a_word words.Comma ∷ []
first arguments = first_argument
first listed = first_argument
first arguments_tail = a_word words.Comma ∷ []
first argument = first_argument
