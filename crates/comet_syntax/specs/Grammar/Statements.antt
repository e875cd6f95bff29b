-- The forms of statements.
-- A rule of the language.
use Rattle.std.specs.Prelude.{List, [], ◌∷◌}
use Rattle.comet_syntax.specs.declared.token.Word.TheVariants as words
use Rattle.comet_syntax.specs.Grammar.Symbols.{Symbol, arguments, block, called, class_name, condition, declaration, deeper, events, expression, extreme, first_name, for_start, for_step, generator, generators, generators_tail, item, items_tail, literal, mark, named, named_simple, new_value, onward_deeper, optional_value, otherwise, postfix, quoted, same, simple, statement, statements, suffixes, with_mode, word, write}

abbrev pub block_left_brace : List Symbol
block_left_brace = mark words.LeftBrace ∷ same statements ∷ word words.RightBrace ∷ []

abbrev pub statements_statement : List Symbol
statements_statement = deeper statement ∷ same statements ∷ []

abbrev pub statement_block : List Symbol
statement_block = same block ∷ []

abbrev pub statement_semicolon : List Symbol
statement_semicolon = mark words.Semicolon ∷ []

abbrev pub statement_declaration : List Symbol
statement_declaration = same declaration ∷ word words.Semicolon ∷ []

abbrev pub statement_simple : List Symbol
statement_simple = same simple ∷ word words.Semicolon ∷ []

abbrev pub statement_return : List Symbol
statement_return = mark words.Return ∷ same optional_value ∷ word words.Semicolon ∷ []

abbrev pub statement_if : List Symbol
statement_if = mark words.If ∷ word words.LeftParenthesis ∷ deeper expression ∷ word words.RightParenthesis ∷ deeper statement ∷ same otherwise ∷ []

abbrev pub statement_while : List Symbol
statement_while = mark words.While ∷ word words.LeftParenthesis ∷ deeper expression ∷ word words.RightParenthesis ∷ deeper statement ∷ []

abbrev pub statement_for : List Symbol
statement_for = mark words.For ∷ word words.LeftParenthesis ∷ same for_start ∷ word words.Semicolon ∷ same optional_value ∷ word words.Semicolon ∷ same for_step ∷ word words.RightParenthesis ∷ deeper statement ∷ []

abbrev pub statement_for_all : List Symbol
statement_for_all = mark words.ForAll ∷ word words.LeftParenthesis ∷ same generators ∷ word words.RightParenthesis ∷ deeper statement ∷ []

abbrev pub statement_select : List Symbol
statement_select = mark words.Select ∷ word words.LeftParenthesis ∷ same generators ∷ word words.RightParenthesis ∷ deeper statement ∷ []

abbrev pub statement_select_min : List Symbol
statement_select_min = mark words.SelectMin ∷ word words.LeftParenthesis ∷ same generators ∷ word words.RightParenthesis ∷ word words.LeftParenthesis ∷ deeper expression ∷ word words.RightParenthesis ∷ deeper statement ∷ []

abbrev pub statement_select_max : List Symbol
statement_select_max = mark words.SelectMax ∷ word words.LeftParenthesis ∷ same generators ∷ word words.RightParenthesis ∷ word words.LeftParenthesis ∷ deeper expression ∷ word words.RightParenthesis ∷ deeper statement ∷ []

abbrev pub statement_neighbor : List Symbol
statement_neighbor = mark words.Neighbor ∷ word words.LeftParenthesis ∷ deeper expression ∷ word words.Comma ∷ named ∷ word words.RightParenthesis ∷ deeper statement ∷ []

abbrev pub statement_whenever : List Symbol
statement_whenever = mark words.Whenever ∷ deeper postfix ∷ word words.At ∷ named ∷ word words.LeftParenthesis ∷ same events ∷ word words.RightParenthesis ∷ deeper statement ∷ []

abbrev pub statement_with : List Symbol
statement_with = mark words.With ∷ same with_mode ∷ word words.LeftParenthesis ∷ named ∷ word words.RightParenthesis ∷ deeper block ∷ []

abbrev pub statement_parall : List Symbol
statement_parall = mark words.Parall ∷ word words.LeftParenthesis ∷ named ∷ word words.In ∷ deeper expression ∷ word words.RightParenthesis ∷ deeper statement ∷ []

abbrev pub otherwise_else : List Symbol
otherwise_else = word words.Else ∷ deeper statement ∷ []

abbrev pub optional_value_expression : List Symbol
optional_value_expression = deeper expression ∷ []

abbrev pub for_start_int : List Symbol
for_start_int = word words.Int ∷ named ∷ word words.Equal ∷ deeper expression ∷ []

abbrev pub for_step_simple : List Symbol
for_step_simple = same simple ∷ []

abbrev pub events_int : List Symbol
events_int = word words.Int ∷ named ∷ word words.Comma ∷ word words.Int ∷ named ∷ []

abbrev pub with_mode_atomic : List Symbol
with_mode_atomic = word words.Atomic ∷ []

abbrev pub with_mode_delay : List Symbol
with_mode_delay = word words.Delay ∷ []

abbrev pub generators_generator : List Symbol
generators_generator = deeper generator ∷ same generators_tail ∷ same condition ∷ []

abbrev pub generators_tail_comma : List Symbol
generators_tail_comma = word words.Comma ∷ deeper generator ∷ same generators_tail ∷ []

abbrev pub condition_colon : List Symbol
condition_colon = word words.Colon ∷ deeper expression ∷ []

abbrev pub generator_name : List Symbol
generator_name = named ∷ word words.In ∷ same expression ∷ []

abbrev pub simple_first_name : List Symbol
simple_first_name = deeper first_name ∷ same named_simple ∷ []

abbrev pub simple_literal : List Symbol
simple_literal = deeper literal ∷ deeper suffixes ∷ same write ∷ []

abbrev pub simple_extreme : List Symbol
simple_extreme = deeper extreme ∷ deeper suffixes ∷ same write ∷ []

abbrev pub simple_cout : List Symbol
simple_cout = mark words.Cout ∷ word words.LessLess ∷ same item ∷ same items_tail ∷ []

abbrev pub simple_call : List Symbol
simple_call = mark words.Call ∷ word words.LeftParenthesis ∷ deeper expression ∷ word words.RightParenthesis ∷ []

abbrev pub named_simple_equal : List Symbol
named_simple_equal = word words.Equal ∷ same new_value ∷ []

abbrev pub named_simple_called : List Symbol
named_simple_called = onward_deeper called ∷ deeper suffixes ∷ same write ∷ []

abbrev pub new_value_new : List Symbol
new_value_new = word words.New ∷ same class_name ∷ word words.LeftParenthesis ∷ same arguments ∷ word words.RightParenthesis ∷ []

abbrev pub new_value_expression : List Symbol
new_value_expression = deeper expression ∷ []

abbrev pub write_equal : List Symbol
write_equal = word words.Equal ∷ deeper expression ∷ []

abbrev pub write_plus_equal : List Symbol
write_plus_equal = word words.PlusEqual ∷ deeper expression ∷ []

abbrev pub write_minus_equal : List Symbol
write_minus_equal = word words.MinusEqual ∷ deeper expression ∷ []

abbrev pub write_assign : List Symbol
write_assign = word words.Assign ∷ deeper expression ∷ []

abbrev pub write_arrow : List Symbol
write_arrow = word words.Arrow ∷ deeper expression ∷ []

abbrev pub write_swap : List Symbol
write_swap = word words.Swap ∷ deeper postfix ∷ []

abbrev pub write_plus_plus : List Symbol
write_plus_plus = word words.PlusPlus ∷ []

abbrev pub write_minus_minus : List Symbol
write_minus_minus = word words.MinusMinus ∷ []

abbrev pub first_name_name : List Symbol
first_name_name = named ∷ []

abbrev pub item_expression : List Symbol
item_expression = deeper expression ∷ []

abbrev pub item_string : List Symbol
item_string = quoted ∷ []

abbrev pub item_endl : List Symbol
item_endl = word words.Endl ∷ []

abbrev pub items_tail_less_less : List Symbol
items_tail_less_less = word words.LessLess ∷ same item ∷ same items_tail ∷ []
