-- The forms of declarations.
-- A rule of the language.
use Rattle.std.specs.Prelude.{List, [], ◌∷◌}
use Rattle.comet_syntax.specs.declared.token.Word.TheVariants as words
use Rattle.comet_syntax.specs.Grammar.Symbols.{Symbol, and_tail, arguments, branches, called, class_name, comparison_tail, deeper, dimension, dimension_rest, dimensions, dimensions_tail, domain, expression, int_rest, maker, mark, named, onward, or_tail, product_tail, range_tail, same, start_value, suffixes, total_tail, unnamed, variable_rest, variable_start, word}

abbrev pub declaration_int : List Symbol
declaration_int = mark words.Int ∷ same int_rest ∷ []

abbrev pub declaration_bool : List Symbol
declaration_bool = mark words.Bool ∷ named ∷ same start_value ∷ []

abbrev pub declaration_range : List Symbol
declaration_range = mark words.Range ∷ named ∷ word words.Equal ∷ deeper expression ∷ []

abbrev pub declaration_set : List Symbol
declaration_set = mark words.Set ∷ word words.LeftBrace ∷ word words.Int ∷ word words.RightBrace ∷ named ∷ same start_value ∷ []

abbrev pub declaration_var : List Symbol
declaration_var = mark words.Var ∷ word words.LeftBrace ∷ same variable_rest ∷ []

abbrev pub declaration_inc : List Symbol
declaration_inc = mark words.Inc ∷ word words.LeftBrace ∷ same variable_rest ∷ []

abbrev pub declaration_class_name : List Symbol
declaration_class_name = same class_name ∷ named ∷ same maker ∷ []

abbrev pub int_rest_left_bracket : List Symbol
int_rest_left_bracket = word words.LeftBracket ∷ word words.RightBracket ∷ named ∷ word words.Equal ∷ deeper expression ∷ []

abbrev pub int_rest_name : List Symbol
int_rest_name = named ∷ same dimensions ∷ same start_value ∷ []

abbrev pub start_value_equal : List Symbol
start_value_equal = word words.Equal ∷ deeper expression ∷ []

abbrev pub variable_rest_int : List Symbol
variable_rest_int = word words.Int ∷ word words.RightBrace ∷ named ∷ same dimensions ∷ word words.LeftParenthesis ∷ named ∷ same domain ∷ word words.RightParenthesis ∷ same variable_start ∷ []

abbrev pub variable_rest_set : List Symbol
variable_rest_set = word words.Set ∷ word words.LeftBrace ∷ word words.Int ∷ word words.RightBrace ∷ word words.RightBrace ∷ named ∷ same dimensions ∷ word words.LeftParenthesis ∷ named ∷ word words.RightParenthesis ∷ word words.Arrow ∷ deeper expression ∷ []

abbrev pub domain_comma : List Symbol
domain_comma = word words.Comma ∷ deeper expression ∷ []

abbrev pub variable_start_assign : List Symbol
variable_start_assign = word words.Assign ∷ deeper expression ∷ []

abbrev pub variable_start_arrow : List Symbol
variable_start_arrow = word words.Arrow ∷ deeper expression ∷ []

abbrev pub maker_left_parenthesis : List Symbol
maker_left_parenthesis = word words.LeftParenthesis ∷ same arguments ∷ word words.RightParenthesis ∷ []

abbrev pub maker_equal : List Symbol
maker_equal = word words.Equal ∷ word words.New ∷ same class_name ∷ word words.LeftParenthesis ∷ same arguments ∷ word words.RightParenthesis ∷ []

abbrev pub dimensions_left_bracket : List Symbol
dimensions_left_bracket = word words.LeftBracket ∷ deeper dimension ∷ same dimensions_tail ∷ word words.RightBracket ∷ []

abbrev pub dimensions_tail_comma : List Symbol
dimensions_tail_comma = word words.Comma ∷ deeper dimension ∷ []

abbrev pub dimension_name : List Symbol
dimension_name = named ∷ same dimension_rest ∷ []

abbrev pub dimension_unnamed : List Symbol
dimension_unnamed = same unnamed ∷ same product_tail ∷ same total_tail ∷ same range_tail ∷ same comparison_tail ∷ same and_tail ∷ same or_tail ∷ same branches ∷ []

abbrev pub dimension_rest_in : List Symbol
dimension_rest_in = word words.In ∷ same expression ∷ []

abbrev pub dimension_rest_called : List Symbol
dimension_rest_called = onward called ∷ same suffixes ∷ same product_tail ∷ same total_tail ∷ same range_tail ∷ same comparison_tail ∷ same and_tail ∷ same or_tail ∷ same branches ∷ []
