-- The forms of expressions. An operand is a postfix form, `-` or `!` before an operand, or an aggregate; behind it stand, level by level from the strongest, what goes on with a product, a total, a range, a comparison, `&&`, `||` and `?`.
-- A rule of the language.
use Rattle.std.specs.Prelude.{List, [], ◌∷◌}
use Rattle.comet_syntax.specs.declared.token.Word.TheVariants as words
use Rattle.comet_syntax.specs.Grammar.Symbols.{Symbol, and_tail, argument, arguments, arguments_tail, branches, called, comparison_tail, condition, deeper, expression, extreme, first_name, generators, generators_tail, listed, literal, mark, named, numbered, onward_deeper, operand, or_tail, pair, pair_named, product_tail, quoted, range_tail, same, second, suffixes, total_tail, unnamed, word}

abbrev pub expression_operand : List Symbol
expression_operand = same operand ∷ same product_tail ∷ same total_tail ∷ same range_tail ∷ same comparison_tail ∷ same and_tail ∷ same or_tail ∷ same branches ∷ []

abbrev pub branches_question : List Symbol
branches_question = word words.Question ∷ deeper expression ∷ word words.Colon ∷ deeper expression ∷ []

abbrev pub or_tail_or_or : List Symbol
or_tail_or_or = mark words.OrOr ∷ same operand ∷ same product_tail ∷ same total_tail ∷ same range_tail ∷ same comparison_tail ∷ same and_tail ∷ same or_tail ∷ []

abbrev pub and_tail_and_and : List Symbol
and_tail_and_and = mark words.AndAnd ∷ same operand ∷ same product_tail ∷ same total_tail ∷ same range_tail ∷ same comparison_tail ∷ same and_tail ∷ []

abbrev pub comparison_tail_equal_equal : List Symbol
comparison_tail_equal_equal = mark words.EqualEqual ∷ same operand ∷ same product_tail ∷ same total_tail ∷ same range_tail ∷ []

abbrev pub comparison_tail_not_equal : List Symbol
comparison_tail_not_equal = mark words.NotEqual ∷ same operand ∷ same product_tail ∷ same total_tail ∷ same range_tail ∷ []

abbrev pub comparison_tail_less : List Symbol
comparison_tail_less = mark words.Less ∷ same operand ∷ same product_tail ∷ same total_tail ∷ same range_tail ∷ []

abbrev pub comparison_tail_less_equal : List Symbol
comparison_tail_less_equal = mark words.LessEqual ∷ same operand ∷ same product_tail ∷ same total_tail ∷ same range_tail ∷ []

abbrev pub comparison_tail_greater : List Symbol
comparison_tail_greater = mark words.Greater ∷ same operand ∷ same product_tail ∷ same total_tail ∷ same range_tail ∷ []

abbrev pub comparison_tail_greater_equal : List Symbol
comparison_tail_greater_equal = mark words.GreaterEqual ∷ same operand ∷ same product_tail ∷ same total_tail ∷ same range_tail ∷ []

abbrev pub range_tail_dot_dot : List Symbol
range_tail_dot_dot = mark words.DotDot ∷ same operand ∷ same product_tail ∷ same total_tail ∷ []

abbrev pub total_tail_plus : List Symbol
total_tail_plus = mark words.Plus ∷ same operand ∷ same product_tail ∷ same total_tail ∷ []

abbrev pub total_tail_minus : List Symbol
total_tail_minus = mark words.Minus ∷ same operand ∷ same product_tail ∷ same total_tail ∷ []

abbrev pub product_tail_star : List Symbol
product_tail_star = mark words.Star ∷ same operand ∷ same product_tail ∷ []

abbrev pub product_tail_slash : List Symbol
product_tail_slash = mark words.Slash ∷ same operand ∷ same product_tail ∷ []

abbrev pub product_tail_percent : List Symbol
product_tail_percent = mark words.Percent ∷ same operand ∷ same product_tail ∷ []

abbrev pub operand_name : List Symbol
operand_name = named ∷ same called ∷ same suffixes ∷ []

abbrev pub operand_unnamed : List Symbol
operand_unnamed = same unnamed ∷ []

abbrev pub unnamed_literal : List Symbol
unnamed_literal = same literal ∷ same suffixes ∷ []

abbrev pub unnamed_left_brace : List Symbol
unnamed_left_brace = mark words.LeftBrace ∷ same listed ∷ word words.RightBrace ∷ same suffixes ∷ []

abbrev pub unnamed_min : List Symbol
unnamed_min = mark words.Min ∷ word words.LeftParenthesis ∷ same pair ∷ []

abbrev pub unnamed_max : List Symbol
unnamed_max = mark words.Max ∷ word words.LeftParenthesis ∷ same pair ∷ []

abbrev pub unnamed_minus : List Symbol
unnamed_minus = mark words.Minus ∷ deeper operand ∷ []

abbrev pub unnamed_exclamation : List Symbol
unnamed_exclamation = mark words.Exclamation ∷ deeper operand ∷ []

abbrev pub unnamed_sum : List Symbol
unnamed_sum = mark words.Sum ∷ word words.LeftParenthesis ∷ same generators ∷ word words.RightParenthesis ∷ deeper operand ∷ deeper product_tail ∷ []

abbrev pub unnamed_all : List Symbol
unnamed_all = mark words.All ∷ word words.LeftParenthesis ∷ same generators ∷ word words.RightParenthesis ∷ deeper operand ∷ deeper product_tail ∷ []

abbrev pub unnamed_and : List Symbol
unnamed_and = mark words.And ∷ word words.LeftParenthesis ∷ same generators ∷ word words.RightParenthesis ∷ deeper operand ∷ deeper product_tail ∷ []

abbrev pub unnamed_or : List Symbol
unnamed_or = mark words.Or ∷ word words.LeftParenthesis ∷ same generators ∷ word words.RightParenthesis ∷ deeper operand ∷ deeper product_tail ∷ []

abbrev pub unnamed_set_of : List Symbol
unnamed_set_of = mark words.SetOf ∷ word words.LeftParenthesis ∷ same generators ∷ word words.RightParenthesis ∷ deeper operand ∷ deeper product_tail ∷ []

abbrev pub unnamed_arg_min : List Symbol
unnamed_arg_min = mark words.ArgMin ∷ word words.LeftParenthesis ∷ same generators ∷ word words.RightParenthesis ∷ deeper operand ∷ deeper product_tail ∷ []

abbrev pub unnamed_arg_max : List Symbol
unnamed_arg_max = mark words.ArgMax ∷ word words.LeftParenthesis ∷ same generators ∷ word words.RightParenthesis ∷ deeper operand ∷ deeper product_tail ∷ []

abbrev pub pair_first_name : List Symbol
pair_first_name = deeper first_name ∷ same pair_named ∷ []

abbrev pub pair_unnamed : List Symbol
pair_unnamed = deeper unnamed ∷ deeper product_tail ∷ deeper total_tail ∷ deeper range_tail ∷ deeper comparison_tail ∷ deeper and_tail ∷ deeper or_tail ∷ deeper branches ∷ word words.Comma ∷ deeper expression ∷ word words.RightParenthesis ∷ same suffixes ∷ []

abbrev pub pair_named_in : List Symbol
pair_named_in = word words.In ∷ deeper expression ∷ same generators_tail ∷ same condition ∷ word words.RightParenthesis ∷ deeper operand ∷ deeper product_tail ∷ []

abbrev pub pair_named_called : List Symbol
pair_named_called = onward_deeper called ∷ deeper suffixes ∷ deeper product_tail ∷ deeper total_tail ∷ deeper range_tail ∷ deeper comparison_tail ∷ deeper and_tail ∷ deeper or_tail ∷ deeper branches ∷ word words.Comma ∷ deeper expression ∷ word words.RightParenthesis ∷ same suffixes ∷ []

abbrev pub literal_number : List Symbol
literal_number = numbered ∷ []

abbrev pub literal_true : List Symbol
literal_true = mark words.True ∷ []

abbrev pub literal_false : List Symbol
literal_false = mark words.False ∷ []

abbrev pub literal_left_parenthesis : List Symbol
literal_left_parenthesis = mark words.LeftParenthesis ∷ deeper expression ∷ word words.RightParenthesis ∷ []

abbrev pub literal_left_bracket : List Symbol
literal_left_bracket = mark words.LeftBracket ∷ same listed ∷ word words.RightBracket ∷ []

abbrev pub extreme_min : List Symbol
extreme_min = mark words.Min ∷ word words.LeftParenthesis ∷ deeper expression ∷ word words.Comma ∷ deeper expression ∷ word words.RightParenthesis ∷ []

abbrev pub extreme_max : List Symbol
extreme_max = mark words.Max ∷ word words.LeftParenthesis ∷ deeper expression ∷ word words.Comma ∷ deeper expression ∷ word words.RightParenthesis ∷ []

abbrev pub postfix_name : List Symbol
postfix_name = named ∷ same called ∷ same suffixes ∷ []

abbrev pub postfix_literal : List Symbol
postfix_literal = same literal ∷ same suffixes ∷ []

abbrev pub postfix_left_brace : List Symbol
postfix_left_brace = mark words.LeftBrace ∷ same listed ∷ word words.RightBrace ∷ same suffixes ∷ []

abbrev pub postfix_extreme : List Symbol
postfix_extreme = same extreme ∷ same suffixes ∷ []

abbrev pub called_left_parenthesis : List Symbol
called_left_parenthesis = word words.LeftParenthesis ∷ same arguments ∷ word words.RightParenthesis ∷ []

abbrev pub suffixes_left_bracket : List Symbol
suffixes_left_bracket = mark words.LeftBracket ∷ deeper expression ∷ same second ∷ word words.RightBracket ∷ same suffixes ∷ []

abbrev pub suffixes_dot : List Symbol
suffixes_dot = word words.Dot ∷ named ∷ word words.LeftParenthesis ∷ same arguments ∷ word words.RightParenthesis ∷ same suffixes ∷ []

abbrev pub second_comma : List Symbol
second_comma = word words.Comma ∷ deeper expression ∷ []

abbrev pub arguments_listed : List Symbol
arguments_listed = same listed ∷ []

abbrev pub listed_argument : List Symbol
listed_argument = same argument ∷ same arguments_tail ∷ []

abbrev pub arguments_tail_comma : List Symbol
arguments_tail_comma = word words.Comma ∷ same argument ∷ same arguments_tail ∷ []

abbrev pub argument_expression : List Symbol
argument_expression = deeper expression ∷ []

abbrev pub argument_string : List Symbol
argument_string = quoted ∷ []
