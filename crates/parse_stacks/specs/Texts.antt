-- How the value of each part of a program is written, and what is known of it.
-- Definitions of this project, over what trees are written as.
use Rattle.std.specs.Prelude.{Bool, true, false, List, [], ◌∷◌, Option, None, Some, map, reverse, ◌≡◌}
use Rattle.std.specs.declared.alloc.Global.{Global}
use Rattle.std.specs.declared.vec.Vec.{Vec}
use Rattle.cbl_base.specs.declared.place.Place.{Place}
use Rattle.comet_syntax.specs.declared.token.Word.{Word}
use Rattle.comet_syntax.specs.declared.token.Word.TheVariants as words
use Rattle.comet_syntax.specs.declared.tree.expressions.Argument.{Argument}
use Rattle.comet_syntax.specs.declared.tree.expressions.ChainOperator.{ChainOperator}
use Rattle.comet_syntax.specs.declared.tree.expressions.Extreme.{Extreme}
use Rattle.comet_syntax.specs.declared.tree.expressions.Link.{Link}
use Rattle.comet_syntax.specs.declared.tree.expressions.Suffix.{Suffix}
use Rattle.comet_syntax.specs.declared.tree.statements.Step.{Step}
use Rattle.comet_syntax.specs.declared.tree.statements.Step.TheVariants as steps
use Rattle.comet_syntax.specs.declared.tree.statements.WriteOperator.{WriteOperator}
use Rattle.comet_syntax.specs.declared.tree.statements.WriteOperator.TheVariants as writes
use Rattle.comet_syntax.specs.Grammar.Symbols as grammar
use Rattle.comet_syntax.specs.Grammar.Symbols.{Part, Symbol}
use Rattle.comet_syntax.specs.Grammar.Expressions.{called_left_parenthesis, pair_named_in, pair_named_called}
use Rattle.comet_syntax.specs.Grammar.Declarations.{dimension_rest_in, dimension_rest_called, int_rest_left_bracket, int_rest_name, variable_rest_int, variable_rest_set}
use Rattle.comet_syntax.specs.Grammar.Statements.{first_name_name, named_simple_equal, named_simple_called, new_value_new, new_value_expression, write_equal, write_plus_equal, write_minus_equal, write_assign, write_arrow, write_swap, write_plus_plus, write_minus_minus}
use Rattle.comet_syntax.specs.Written.Shown.{Shown, form, Grows, each, word, name}
use Rattle.comet_syntax.specs.Written.Expressions.{Head, by_name, by_opening, by_literal, by_brace, by_extreme, by_other, Opening, opening, misplaced, Writing, whole, at_operand, at_product, at_postfix, extreme_form, word_of_extreme, compared, up_to, chosen, written, written_argument, written_generator, written_generators, written_link, generator_text, generators_text, generators_behind, more_generator, condition_text, option_value, more_argument, listed_text, arguments_text, parenthesized, pair_generators, two_in_pair, by_form, extreme_of}
use Rattle.comet_syntax.specs.Written.Shown as shown_as
use Rattle.comet_syntax.specs.Written.Declarations.{whole_text, template_text, written_class, made_text, start_text, written_dimension, second_dimension, dimensions_text, domain_text, variable_start_text, maker_text, int_in_braces, written_declaration}
use Rattle.comet_syntax.specs.Written.Statements.{written_item, more_item, written_simple, value_text, for_start_text, for_step_text, events_text, mode_text, otherwise_text, option_text, more_statement, written_statement, written_block}
use Rattle.comet_syntax.specs.Written.Programs.{result_text, parameter_text, written_parameter, more_parameter, parameters_text, written_top, all_tops, no_brackets, with_brackets}
use Rattle.parse_stacks.specs.declared.tails.Behind.{Behind}
use Rattle.parse_stacks.specs.declared.tails.Branches.{Branches}
use Rattle.parse_stacks.specs.declared.tails.Compared.{Compared}
use Rattle.parse_stacks.specs.declared.tails.DimensionRest.{DimensionRest}
use Rattle.parse_stacks.specs.declared.tails.DimensionRest.TheVariants as dimension_rests
use Rattle.parse_stacks.specs.declared.tails.IntRest.{IntRest}
use Rattle.parse_stacks.specs.declared.tails.IntRest.TheVariants as int_rests
use Rattle.parse_stacks.specs.declared.tails.NamedRest.{NamedRest}
use Rattle.parse_stacks.specs.declared.tails.NamedRest.TheVariants as named_rests
use Rattle.parse_stacks.specs.declared.tails.NewValue.{NewValue}
use Rattle.parse_stacks.specs.declared.tails.NewValue.TheVariants as new_values
use Rattle.parse_stacks.specs.declared.tails.Pair.{Pair}
use Rattle.parse_stacks.specs.declared.tails.Pair.TheVariants as pairs
use Rattle.parse_stacks.specs.declared.tails.PairRest.{PairRest}
use Rattle.parse_stacks.specs.declared.tails.PairRest.TheVariants as pair_rests
use Rattle.parse_stacks.specs.declared.tails.UpTo.{UpTo}
use Rattle.parse_stacks.specs.declared.tails.VariableRest.{VariableRest}
use Rattle.parse_stacks.specs.declared.tails.VariableRest.TheVariants as variable_rests
use Rattle.parse_stacks.specs.declared.tails.WriteRest.{WriteRest}
use Rattle.parse_stacks.specs.declared.tails.WriteRest.TheVariants as write_rests
use Rattle.parse_stacks.specs.Levels.{IsOperand, IsMultiplying, IsAdding, IsConjoining, IsDisjoining, Starts, after_text, closed_texts, closed_suffixes}
use Rattle.parse_stacks.specs.Values.{Value}

-- an operand that doesn't begin with a name, up to its suffixes
abbrev pub unnamed_text : Head → Grows
unnamed_text (by_name n) = misplaced
unnamed_text (by_opening o) = opening o

abbrev pub literal_text : Head → Grows
literal_text (by_opening (by_literal text)) = text
literal_text (by_opening (by_brace place text)) = misplaced
literal_text (by_opening (by_extreme e place in_pair apart)) = misplaced
literal_text (by_opening (by_other text)) = misplaced
literal_text (by_name n) = misplaced

abbrev pub extreme_text : Head → Grows
extreme_text (by_opening (by_extreme e place in_pair apart)) behind = form grammar.extreme (extreme_form e) ∷ shown_as.mark (word_of_extreme e) place (word words.LeftParenthesis (apart behind))
extreme_text (by_opening (by_literal text)) behind = misplaced behind
extreme_text (by_opening (by_brace place text)) behind = misplaced behind
extreme_text (by_opening (by_other text)) behind = misplaced behind
extreme_text (by_name n) behind = misplaced behind

abbrev pub behind_first : List Shown → List Shown
behind_first [] = []
behind_first (x ∷ xs) = xs

-- a number, as the token that it is
abbrev pub number_text : Writing → Grows
number_text w behind = behind_first (literal_text w.head behind)

abbrev pub called_text : Option (Vec Argument Global) → Grows
called_text None behind = form grammar.called [] ∷ behind
called_text (Some a) behind = form grammar.called called_left_parenthesis ∷ parenthesized (map written_argument a.items) behind

abbrev pub compared_text : Option Compared → Grows
compared_text None behind = form grammar.comparison_tail [] ∷ behind
compared_text (Some c) behind = compared c.comparison c.place (written c.right) behind

abbrev pub up_to_text : Option UpTo → Grows
up_to_text None behind = form grammar.range_tail [] ∷ behind
up_to_text (Some u) behind = up_to u.place (written u.high) behind

abbrev pub branches_text : Option Branches → Grows
branches_text None behind = form grammar.branches [] ∷ behind
branches_text (Some b) behind = chosen (written b.then) (written b.otherwise) behind

-- links, of which the last one stands first
abbrev pub links_text : Part → Vec Link Global → Grows
links_text n links = closed_texts n (reverse links.items)

-- what stands behind the first operand of an expression
abbrev pub behind_text : Behind → Grows
behind_text b behind = links_text grammar.product_tail b.product (links_text grammar.total_tail b.total (up_to_text b.up_to (compared_text b.compared (links_text grammar.and_tail b.conjunction
    (links_text grammar.or_tail b.disjunction (branches_text b.branches behind))))))

-- the first link, if there is one, has such an operator
abbrev pub LinksStart : (ChainOperator → Type 0) → Vec Link Global → Type 0
LinksStart Q links = Starts Q (map written_link (reverse links.items))

pub record StartsRight (b : Behind) : Type 0 where
  pub product : LinksStart IsMultiplying b.product
  pub total : LinksStart IsAdding b.total
  pub conjunction : LinksStart IsConjoining b.conjunction
  pub disjunction : LinksStart IsDisjoining b.disjunction

abbrev pub pair_text : Pair → Grows
pair_text (pairs.Two left right suffixes) behind = two_in_pair (written left) (written right) (closed_suffixes (reverse suffixes.items) behind)
pair_text (pairs.Over g body) behind = pair_generators (written_generators g).all (written_generators g).only (word words.RightParenthesis (at_product (written body) behind))

abbrev pub pair_rest_text : PairRest → Grows
pair_rest_text (pair_rests.Over domain more condition body) behind = form grammar.pair_named pair_named_in ∷ word words.In (whole (written domain) (generators_behind (map written_generator (reverse more.items)) (option_value written condition)
    (word words.RightParenthesis (at_product (written body) behind))))
pair_rest_text (pair_rests.Two called inner b right suffixes) behind = form grammar.pair_named pair_named_called ∷ called_text called (closed_suffixes (reverse inner.items) (behind_text b (word words.Comma (whole (written right)
    (word words.RightParenthesis (closed_suffixes (reverse suffixes.items) behind))))))

abbrev pub dimension_rest_text : DimensionRest → Grows
dimension_rest_text (dimension_rests.In e) behind = form grammar.dimension_rest dimension_rest_in ∷ word words.In (whole_text e behind)
dimension_rest_text (dimension_rests.Rest called suffixes b) behind = form grammar.dimension_rest dimension_rest_called ∷ called_text called (closed_suffixes (reverse suffixes.items) (behind_text b behind))

abbrev pub int_rest_text : IntRest → Grows
int_rest_text (int_rests.Array n e) behind = form grammar.int_rest int_rest_left_bracket ∷ word words.LeftBracket (word words.RightBracket (name n (word words.Equal (whole_text e behind))))
int_rest_text (int_rests.Plain n d e) behind = form grammar.int_rest int_rest_name ∷ name n (dimensions_text d (start_text e behind))

abbrev pub variable_rest_text : VariableRest → Grows
variable_rest_text (variable_rests.Number n d s e v) behind = form grammar.variable_rest variable_rest_int ∷ word words.Int (word words.RightBrace (name n (dimensions_text d
    (word words.LeftParenthesis (name s (domain_text e (word words.RightParenthesis (variable_start_text v behind))))))))
variable_rest_text (variable_rests.Set n d s e) behind = form grammar.variable_rest variable_rest_set ∷ word words.Set (int_in_braces (word words.RightBrace (name n (dimensions_text d
    (word words.LeftParenthesis (name s (word words.RightParenthesis (word words.Arrow (whole_text e behind)))))))))

abbrev pub new_value_text : NewValue → Grows
new_value_text (new_values.New c a) behind = form grammar.new_value new_value_new ∷ word words.New (made_text c (reverse a.items) behind)
new_value_text (new_values.Value e) behind = form grammar.new_value new_value_expression ∷ whole_text e behind

abbrev pub write_form : WriteOperator → List Symbol
write_form writes.Set = write_equal
write_form writes.Add = write_plus_equal
write_form writes.Subtract = write_minus_equal
write_form writes.Assign = write_assign
write_form writes.Define = write_arrow

abbrev pub write_word : WriteOperator → Word
write_word writes.Set = words.Equal
write_word writes.Add = words.PlusEqual
write_word writes.Subtract = words.MinusEqual
write_word writes.Assign = words.Assign
write_word writes.Define = words.Arrow

abbrev pub step_rest_text : Step → Grows
step_rest_text steps.Increment behind = form grammar.write write_plus_plus ∷ word words.PlusPlus behind
step_rest_text steps.Decrement behind = form grammar.write write_minus_minus ∷ word words.MinusMinus behind

abbrev pub write_rest_text : WriteRest → Grows
write_rest_text write_rests.Nothing behind = form grammar.write [] ∷ behind
write_rest_text (write_rests.Value o e) behind = form grammar.write (write_form o) ∷ word (write_word o) (whole_text e behind)
write_rest_text (write_rests.Swap e) behind = form grammar.write write_swap ∷ word words.Swap (at_postfix (written e) behind)
write_rest_text (write_rests.Step s) behind = step_rest_text s behind

abbrev pub named_rest_text : NamedRest → Grows
named_rest_text (named_rests.Set v) behind = form grammar.named_simple named_simple_equal ∷ word words.Equal (new_value_text v behind)
named_rest_text (named_rests.Rest called suffixes w) behind = form grammar.named_simple named_simple_called ∷ called_text called (closed_suffixes (reverse suffixes.items) (write_rest_text w behind))

abbrev pub brackets_text : Bool → Grows
brackets_text true = with_brackets
brackets_text false = no_brackets

-- the value of a part, as it is written in front of what stands behind it
abbrev pub text : (n : Part) → Value n → Grows
text grammar.program all = all_tops (reverse all.items)
text grammar.top t = written_top t
text grammar.result_kind r = result_text r
text grammar.parameters all = parameters_text (reverse all.items)
text grammar.parameters_tail all = λ behind. each more_parameter (reverse all.items) (form grammar.parameters_tail [] ∷ behind)
text grammar.parameter p = written_parameter p
text grammar.parameter_kind t = parameter_text t.kind t.place
text grammar.brackets b = brackets_text b
text grammar.template n = template_text n
text grammar.class_name c = written_class c
text grammar.block b = written_block b
text grammar.statements all = λ behind. each more_statement (map written_statement (reverse all.items)) (form grammar.statements [] ∷ behind)
text grammar.statement s = written_statement s
text grammar.otherwise s = otherwise_text (option_text written_statement s)
text grammar.optional_value e = value_text e
text grammar.for_start s = for_start_text s
text grammar.for_step s = for_step_text s
text grammar.events e = events_text e
text grammar.with_mode m = mode_text m
text grammar.generators g = generators_text (written_generators g)
text grammar.generators_tail all = λ behind. each more_generator (map written_generator (reverse all.items)) (form grammar.generators_tail [] ∷ behind)
text grammar.condition e = condition_text (option_value written e)
text grammar.generator g = generator_text (written_generator g)
text grammar.simple s = written_simple s
text grammar.named_simple r = named_rest_text r
text grammar.new_value v = new_value_text v
text grammar.write w = write_rest_text w
text grammar.first_name n = λ behind. form grammar.first_name first_name_name ∷ name n behind
text grammar.item i = written_item i
text grammar.items_tail all = λ behind. each more_item (reverse all.items) (form grammar.items_tail [] ∷ behind)
text grammar.declaration d = written_declaration d
text grammar.int_rest r = int_rest_text r
text grammar.start_value e = start_text e
text grammar.variable_rest r = variable_rest_text r
text grammar.domain e = domain_text e
text grammar.variable_start s = variable_start_text s
text grammar.maker m = maker_text m
text grammar.dimensions d = dimensions_text d
text grammar.dimensions_tail d = second_dimension d
text grammar.dimension d = written_dimension d
text grammar.dimension_rest r = dimension_rest_text r
text grammar.expression e = whole_text e
text grammar.branches b = branches_text b
text grammar.or_tail links = links_text grammar.or_tail links
text grammar.and_tail links = links_text grammar.and_tail links
text grammar.comparison_tail c = compared_text c
text grammar.range_tail u = up_to_text u
text grammar.total_tail links = links_text grammar.total_tail links
text grammar.product_tail links = links_text grammar.product_tail links
text grammar.operand e = at_operand (written e)
text grammar.unnamed e = λ behind. unnamed_text (written e).head ((written e).operand_rest behind)
text grammar.pair p = pair_text p
text grammar.pair_named r = pair_rest_text r
text grammar.literal e = literal_text (written e).head
text grammar.extreme e = extreme_text (written e).head
text grammar.postfix e = at_postfix (written e)
text grammar.called a = called_text a
text grammar.suffixes all = closed_suffixes (reverse all.items)
text grammar.second e = after_text grammar.second words.Comma (option_value written e)
text grammar.arguments all = arguments_text (map written_argument (reverse all.items))
text grammar.listed all = listed_text (map written_argument (reverse all.items))
text grammar.arguments_tail all = λ behind. each more_argument (map written_argument (reverse all.items)) (form grammar.arguments_tail [] ∷ behind)
text grammar.argument a = written_argument a

-- an operand that doesn't begin with a name
pub record IsUnnamed (w : Writing) : Type 0 where
  pub by : Opening
  pub head_is : w.head ≡ by_opening by
  pub level : IsOperand w

pub record IsLiteral (w : Writing) : Type 0 where
  pub text : Grows
  pub is : w ≡ by_form text

pub record IsExtreme (w : Writing) : Type 0 where
  pub extreme : Extreme
  pub place : Place
  pub left : Writing
  pub right : Writing
  pub is : w ≡ extreme_of extreme place left right

-- arguments of which there is a first one
pub record IsListed (all : Vec Argument Global) : Type 0 where
  pub first : Argument
  pub more : List Argument
  pub is : reverse all.items ≡ first ∷ more

abbrev pub PairRestLevel : PairRest → Type 0
PairRestLevel (pair_rests.Over domain more condition body) = Unit {0}
PairRestLevel (pair_rests.Two called inner b right suffixes) = StartsRight b

abbrev pub DimensionRestLevel : DimensionRest → Type 0
DimensionRestLevel (dimension_rests.In e) = Unit {0}
DimensionRestLevel (dimension_rests.Rest called suffixes b) = StartsRight b

-- a bare name is set by no other form than the one for it
abbrev pub IsSetElsewhere : List Suffix → WriteRest → Type 0
IsSetElsewhere [] (write_rests.Value writes.Set e) = ⊥
IsSetElsewhere all w = Unit {0}

abbrev pub NamedRestLevel : NamedRest → Type 0
NamedRestLevel (named_rests.Rest None suffixes w) = IsSetElsewhere (reverse suffixes.items) w
NamedRestLevel r = Unit {0}

-- what is known of the value of a part
abbrev pub Level : (n : Part) → Value n → Type 0
Level grammar.operand e = IsOperand (written e)
Level grammar.unnamed e = IsUnnamed (written e)
Level grammar.literal e = IsLiteral (written e)
Level grammar.extreme e = IsExtreme (written e)
Level grammar.product_tail links = LinksStart IsMultiplying links
Level grammar.total_tail links = LinksStart IsAdding links
Level grammar.and_tail links = LinksStart IsConjoining links
Level grammar.or_tail links = LinksStart IsDisjoining links
Level grammar.named_simple r = NamedRestLevel r
Level grammar.pair_named r = PairRestLevel r
Level grammar.dimension_rest r = DimensionRestLevel r
Level grammar.listed all = IsListed all
Level _ _ = Unit {0}
