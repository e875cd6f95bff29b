-- An expression, written as the derivation that it stands for: how it begins, and what stands behind that where it is an operand, a product, and so on up to a whole expression.
-- Where a tree has an operand that binds too weakly, or an empty chain, no derivation is written so.
-- A rule of this project.
use Rattle.std.specs.Prelude.{Bool, true, false, ℤ, List, [], ◌∷◌, Option, None, Some}
use Rattle.cbl_base.specs.declared.place.Place.{Place}
use Rattle.comet_syntax.specs.declared.token.TokenKind.TheVariants as kinds
use Rattle.comet_syntax.specs.declared.token.Word.{Word}
use Rattle.comet_syntax.specs.declared.token.Word.TheVariants as words
use Rattle.comet_syntax.specs.declared.tree.expressions.Name.{Name}
use Rattle.comet_syntax.specs.declared.tree.expressions.ChainOperator.{ChainOperator}
use Rattle.comet_syntax.specs.declared.tree.expressions.ChainOperator.TheVariants as chains
use Rattle.comet_syntax.specs.declared.tree.expressions.Comparison.{Comparison}
use Rattle.comet_syntax.specs.declared.tree.expressions.Comparison.TheVariants as comparisons
use Rattle.comet_syntax.specs.declared.tree.expressions.UnaryOperator.{UnaryOperator}
use Rattle.comet_syntax.specs.declared.tree.expressions.UnaryOperator.TheVariants as unaries
use Rattle.comet_syntax.specs.declared.tree.expressions.Extreme.{Extreme}
use Rattle.comet_syntax.specs.declared.tree.expressions.Extreme.TheVariants as extremes
use Rattle.comet_syntax.specs.declared.tree.expressions.Aggregate.{Aggregate}
use Rattle.comet_syntax.specs.declared.tree.expressions.Aggregate.TheVariants as aggregates
use Rattle.comet_syntax.specs.declared.tree.expressions.Argument.{Argument}
use Rattle.comet_syntax.specs.declared.tree.expressions.Expression.{Expression}
use Rattle.comet_syntax.specs.declared.tree.expressions.Suffix.{Suffix}
use Rattle.comet_syntax.specs.declared.tree.expressions.Generator.{Generator, fold-Generator}
use Rattle.comet_syntax.specs.declared.tree.expressions.Generators.{Generators, fold-Generators}
use Rattle.comet_syntax.specs.declared.tree.expressions.Link.{Link, fold-Link}
use Rattle.comet_syntax.specs.declared.tree.expressions.Argument.TheOpen as layers
use Rattle.comet_syntax.specs.declared.tree.expressions.Argument.TheFolds.{fold-Expression, fold-Argument, fold-Suffix}
use Rattle.comet_syntax.specs.Grammar.Symbols.{Part, Symbol, program, expression, branches, or_tail, and_tail, comparison_tail, range_tail, total_tail, product_tail, operand, unnamed, pair, pair_named, literal, extreme, postfix, called, suffixes, second, arguments, listed, arguments_tail, argument, generators, generators_tail, condition, generator, first_name}
use Rattle.comet_syntax.specs.Grammar.Expressions.{expression_operand, branches_question, or_tail_or_or, and_tail_and_and, comparison_tail_equal_equal, comparison_tail_not_equal, comparison_tail_less, comparison_tail_less_equal, comparison_tail_greater, comparison_tail_greater_equal, range_tail_dot_dot, total_tail_plus, total_tail_minus, product_tail_star, product_tail_slash, product_tail_percent, operand_name, operand_unnamed, unnamed_literal, unnamed_left_brace, unnamed_min, unnamed_max, unnamed_minus, unnamed_exclamation, unnamed_sum, unnamed_all, unnamed_and, unnamed_or, unnamed_set_of, unnamed_arg_min, unnamed_arg_max, pair_first_name, pair_unnamed, pair_named_in, pair_named_called, literal_number, literal_true, literal_false, literal_left_parenthesis, literal_left_bracket, extreme_min, extreme_max, postfix_name, postfix_literal, postfix_left_brace, postfix_extreme, called_left_parenthesis, suffixes_left_bracket, suffixes_dot, second_comma, arguments_listed, listed_argument, arguments_tail_comma, argument_expression, argument_string}
use Rattle.comet_syntax.specs.Grammar.Statements.{generators_generator, generators_tail_comma, condition_colon, generator_name, first_name_name}
use Rattle.comet_syntax.specs.Written.Shown.{form, plain, placed, Grows, each, word, mark, name}

-- no derivation has this: a program stands nowhere in an expression
abbrev pub misplaced : Grows
misplaced behind = form program [] ∷ behind

-- an optional part that is left out
abbrev pub closed : Part → Grows → Grows
closed n text behind = text (form n [] ∷ behind)

-- how an expression that doesn't begin with a name begins
pub data Opening : Type 0 where
  by_literal : Grows → Opening
  by_brace : Place → Grows → Opening
  -- `min(` or `max(`, and what stands behind: where it may be an aggregate as well, and where it may not
  by_extreme : Extreme → Place → Grows → Grows → Opening
  -- a sign before an operand, or an aggregate
  by_other : Grows → Opening

pub data Head : Type 0 where
  by_name : Name → Head
  by_opening : Opening → Head

pub record Writing : Type 0 where
  pub head : Head
  -- it is a name and no more
  pub is_name : Bool
  -- of a primary: what stands behind its head
  pub primary_rest : Option Grows
  -- what stands behind its head, at each binding level
  pub operand_rest : Grows
  pub product_rest : Grows
  pub total_rest : Grows
  pub range_rest : Grows
  pub comparison_rest : Grows
  pub conjunction_rest : Grows
  pub disjunction_rest : Grows
  pub whole_rest : Grows

abbrev pub from_whole : Head → Grows → Writing
from_whole h r = record {
  head = h;
  is_name = false;
  primary_rest = None;
  operand_rest = misplaced;
  product_rest = misplaced;
  total_rest = misplaced;
  range_rest = misplaced;
  comparison_rest = misplaced;
  conjunction_rest = misplaced;
  disjunction_rest = misplaced;
  whole_rest = r;
}

abbrev pub from_disjunction : Head → Grows → Writing
from_disjunction h r = record (from_whole h (closed branches r)) { disjunction_rest = r }

abbrev pub from_conjunction : Head → Grows → Writing
from_conjunction h r = record (from_disjunction h (closed or_tail r)) { conjunction_rest = r }

abbrev pub from_comparison : Head → Grows → Writing
from_comparison h r = record (from_conjunction h (closed and_tail r)) { comparison_rest = r }

abbrev pub from_range : Head → Grows → Writing
from_range h r = record (from_comparison h (closed comparison_tail r)) { range_rest = r }

abbrev pub from_total : Head → Grows → Writing
from_total h r = record (from_range h (closed range_tail r)) { total_rest = r }

abbrev pub from_product : Head → Grows → Writing
from_product h r = record (from_total h (closed total_tail r)) { product_rest = r }

abbrev pub from_operand : Head → Grows → Writing
from_operand h r = record (from_product h (closed product_tail r)) { operand_rest = r }

abbrev pub from_primary : Head → Grows → Writing
from_primary h r = record (from_operand h (closed suffixes r)) { primary_rest = Some r }

-- what no derivation is written as
abbrev pub unwritten : Writing
unwritten = from_whole (by_opening (by_other misplaced)) misplaced

abbrev pub word_of_extreme : Extreme → Word
word_of_extreme extremes.Min = words.Min
word_of_extreme extremes.Max = words.Max

abbrev pub unnamed_extreme : Extreme → List Symbol
unnamed_extreme extremes.Min = unnamed_min
unnamed_extreme extremes.Max = unnamed_max

abbrev pub extreme_form : Extreme → List Symbol
extreme_form extremes.Min = extreme_min
extreme_form extremes.Max = extreme_max

-- an operand that doesn't begin with a name, up to its suffixes
abbrev pub opening : Opening → Grows
opening (by_literal text) behind = form unnamed unnamed_literal ∷ text behind
opening (by_brace place text) behind = form unnamed unnamed_left_brace ∷ mark words.LeftBrace place (text behind)
opening (by_extreme e place in_pair apart) behind = form unnamed (unnamed_extreme e) ∷ mark (word_of_extreme e) place (word words.LeftParenthesis (in_pair behind))
opening (by_other text) behind = text behind

abbrev pub operand_head : Head → Grows
operand_head (by_name n) behind = form operand operand_name ∷ name n behind
operand_head (by_opening o) behind = form operand operand_unnamed ∷ opening o behind

-- as an operand, a product, a total, an end of a range, a side of a comparison, an operand of `&&`, an operand of `||`, and whole
abbrev pub at_operand : Writing → Grows
at_operand e behind = operand_head e.head (e.operand_rest behind)

abbrev pub at_product : Writing → Grows
at_product e behind = operand_head e.head (e.product_rest behind)

abbrev pub at_total : Writing → Grows
at_total e behind = operand_head e.head (e.total_rest behind)

abbrev pub at_range : Writing → Grows
at_range e behind = operand_head e.head (e.range_rest behind)

abbrev pub at_comparison : Writing → Grows
at_comparison e behind = operand_head e.head (e.comparison_rest behind)

abbrev pub at_conjunction : Writing → Grows
at_conjunction e behind = operand_head e.head (e.conjunction_rest behind)

abbrev pub whole : Writing → Grows
whole e behind = form expression expression_operand ∷ operand_head e.head (e.whole_rest behind)

-- as a postfix form where no aggregate may stand
abbrev pub postfix_head : Head → Grows
postfix_head (by_name n) behind = form postfix postfix_name ∷ name n behind
postfix_head (by_opening (by_literal text)) behind = form postfix postfix_literal ∷ text behind
postfix_head (by_opening (by_brace place text)) behind = form postfix postfix_left_brace ∷ mark words.LeftBrace place (text behind)
postfix_head (by_opening (by_extreme e place in_pair apart)) behind = form postfix postfix_extreme ∷ form extreme (extreme_form e) ∷ mark (word_of_extreme e) place (word words.LeftParenthesis (apart behind))
postfix_head (by_opening (by_other text)) behind = misplaced behind

abbrev pub at_postfix : Writing → Grows
at_postfix e behind = postfix_head e.head (e.operand_rest behind)

-- the first of two expressions behind `min(` or `max(`, where generators may stand as well
abbrev pub pair_head : Head → Grows
pair_head (by_name n) behind = form pair pair_first_name ∷ form first_name first_name_name ∷ name n (form pair_named pair_named_called ∷ behind)
pair_head (by_opening o) behind = form pair pair_unnamed ∷ opening o behind

-- chains
pub record LinkText : Type 0 where
  pub operator : ChainOperator
  pub text : Grows

abbrev pub link : ChainOperator → Place → Writing → Grows
link chains.Or place e behind = form or_tail or_tail_or_or ∷ mark words.OrOr place (at_conjunction e behind)
link chains.And place e behind = form and_tail and_tail_and_and ∷ mark words.AndAnd place (at_comparison e behind)
link chains.Add place e behind = form total_tail total_tail_plus ∷ mark words.Plus place (at_product e behind)
link chains.Subtract place e behind = form total_tail total_tail_minus ∷ mark words.Minus place (at_product e behind)
link chains.Multiply place e behind = form product_tail product_tail_star ∷ mark words.Star place (at_operand e behind)
link chains.Divide place e behind = form product_tail product_tail_slash ∷ mark words.Slash place (at_operand e behind)
link chains.Remainder place e behind = form product_tail product_tail_percent ∷ mark words.Percent place (at_operand e behind)

-- a chain binds as its first operator does
abbrev pub chain_by : ChainOperator → Writing → Grows → Writing
chain_by chains.Or first links = from_disjunction first.head (λ behind. first.conjunction_rest (links (form or_tail [] ∷ behind)))
chain_by chains.And first links = from_conjunction first.head (λ behind. first.comparison_rest (links (form and_tail [] ∷ behind)))
chain_by chains.Add first links = from_total first.head (λ behind. first.product_rest (links (form total_tail [] ∷ behind)))
chain_by chains.Subtract first links = from_total first.head (λ behind. first.product_rest (links (form total_tail [] ∷ behind)))
chain_by chains.Multiply first links = from_product first.head (λ behind. first.operand_rest (links (form product_tail [] ∷ behind)))
chain_by chains.Divide first links = from_product first.head (λ behind. first.operand_rest (links (form product_tail [] ∷ behind)))
chain_by chains.Remainder first links = from_product first.head (λ behind. first.operand_rest (links (form product_tail [] ∷ behind)))

abbrev pub chain : Writing → List LinkText → Writing
chain first [] = unwritten
chain first (l ∷ links) = chain_by l.operator first (each (λ x. x.text) (l ∷ links))

-- comparisons, ranges and conditionals
abbrev pub word_of_comparison : Comparison → Word
word_of_comparison comparisons.Equal = words.EqualEqual
word_of_comparison comparisons.NotEqual = words.NotEqual
word_of_comparison comparisons.Less = words.Less
word_of_comparison comparisons.LessEqual = words.LessEqual
word_of_comparison comparisons.Greater = words.Greater
word_of_comparison comparisons.GreaterEqual = words.GreaterEqual

abbrev pub comparison_form : Comparison → List Symbol
comparison_form comparisons.Equal = comparison_tail_equal_equal
comparison_form comparisons.NotEqual = comparison_tail_not_equal
comparison_form comparisons.Less = comparison_tail_less
comparison_form comparisons.LessEqual = comparison_tail_less_equal
comparison_form comparisons.Greater = comparison_tail_greater
comparison_form comparisons.GreaterEqual = comparison_tail_greater_equal

abbrev pub compared : Comparison → Place → Writing → Grows
compared c place right behind = form comparison_tail (comparison_form c) ∷ mark (word_of_comparison c) place (at_range right behind)

abbrev pub comparison : Writing → Comparison → Place → Writing → Writing
comparison left c place right = from_comparison left.head (λ behind. left.range_rest (compared c place right behind))

abbrev pub up_to : Place → Writing → Grows
up_to place high behind = form range_tail range_tail_dot_dot ∷ mark words.DotDot place (at_total high behind)

abbrev pub range_of : Writing → Place → Writing → Writing
range_of low place high = from_range low.head (λ behind. low.total_rest (up_to place high behind))

abbrev pub chosen : Writing → Writing → Grows
chosen yes_part no_part behind = form branches branches_question ∷ word words.Question (whole yes_part (word words.Colon (whole no_part behind)))

abbrev pub conditional : Writing → Writing → Writing → Writing
conditional test yes_part no_part = from_whole test.head (λ behind. test.disjunction_rest (chosen yes_part no_part behind))

-- generators
pub record GeneratorText : Type 0 where
  pub bound : Name
  pub domain : Writing

pub record GeneratorsText : Type 0 where
  pub all : List GeneratorText
  pub only : Option Writing

-- arguments
abbrev pub argument_text : layers.Argument-F Grows Writing Grows GeneratorText GeneratorsText LinkText → Grows
argument_text (layers.Expression e) behind = form argument argument_expression ∷ whole e behind
argument_text (layers.Str text) behind = form argument argument_string ∷ plain (kinds.Str text) ∷ behind

abbrev pub more_argument : Grows → Grows
more_argument a behind = form arguments_tail arguments_tail_comma ∷ word words.Comma (a behind)

abbrev pub listed_text : List Grows → Grows
listed_text [] behind = misplaced behind
listed_text (a ∷ more) behind = form listed listed_argument ∷ a (each more_argument more (form arguments_tail [] ∷ behind))

abbrev pub arguments_text : List Grows → Grows
arguments_text [] behind = form arguments [] ∷ behind
arguments_text (a ∷ more) behind = form arguments arguments_listed ∷ listed_text (a ∷ more) behind

abbrev pub generator_text : GeneratorText → Grows
generator_text g behind = form generator generator_name ∷ name g.bound (word words.In (whole g.domain behind))

abbrev pub more_generator : GeneratorText → Grows
more_generator g behind = form generators_tail generators_tail_comma ∷ word words.Comma (generator_text g behind)

abbrev pub condition_text : Option Writing → Grows
condition_text None behind = form condition [] ∷ behind
condition_text (Some e) behind = form condition condition_colon ∷ word words.Colon (whole e behind)

-- what stands behind the first generator
abbrev pub generators_behind : List GeneratorText → Option Writing → Grows
generators_behind more only behind = each more_generator more (form generators_tail [] ∷ condition_text only behind)

abbrev pub all_generators : List GeneratorText → Option Writing → Grows
all_generators [] only behind = misplaced behind
all_generators (g ∷ more) only behind = form generators generators_generator ∷ generator_text g (generators_behind more only behind)

abbrev pub generators_text : GeneratorsText → Grows
generators_text g = all_generators g.all g.only

-- generators behind `min(` or `max(`
abbrev pub pair_generators : List GeneratorText → Option Writing → Grows
pair_generators [] only behind = misplaced behind
pair_generators (g ∷ more) only behind = form pair pair_first_name ∷ form first_name first_name_name ∷ name g.bound (form pair_named pair_named_in ∷ word words.In (whole g.domain
    (generators_behind more only behind)))

-- aggregates
abbrev pub plain_aggregate : List Symbol → Word → Place → GeneratorsText → Writing → Grows
plain_aggregate f w place g body behind = form unnamed f ∷ mark w place (word words.LeftParenthesis (generators_text g (word words.RightParenthesis (at_product body behind))))

abbrev pub extreme_aggregate : Extreme → Place → GeneratorsText → Writing → Grows
extreme_aggregate e place g body behind = form unnamed (unnamed_extreme e) ∷ mark (word_of_extreme e) place (word words.LeftParenthesis (pair_generators g.all g.only
    (word words.RightParenthesis (at_product body behind))))

abbrev pub aggregate_text : Aggregate → Place → GeneratorsText → Writing → Grows
aggregate_text aggregates.Sum place g body = plain_aggregate unnamed_sum words.Sum place g body
aggregate_text aggregates.Min place g body = extreme_aggregate extremes.Min place g body
aggregate_text aggregates.Max place g body = extreme_aggregate extremes.Max place g body
aggregate_text aggregates.All place g body = plain_aggregate unnamed_all words.All place g body
aggregate_text aggregates.And place g body = plain_aggregate unnamed_and words.And place g body
aggregate_text aggregates.Or place g body = plain_aggregate unnamed_or words.Or place g body
aggregate_text aggregates.SetOf place g body = plain_aggregate unnamed_set_of words.SetOf place g body
aggregate_text aggregates.ArgMin place g body = plain_aggregate unnamed_arg_min words.ArgMin place g body
aggregate_text aggregates.ArgMax place g body = plain_aggregate unnamed_arg_max words.ArgMax place g body

abbrev pub aggregate : Aggregate → Place → GeneratorsText → Writing → Writing
aggregate a place g body = from_operand (by_opening (by_other (aggregate_text a place g body))) (λ behind. behind)

abbrev pub unary : UnaryOperator → Place → Writing → Writing
unary unaries.Negative place e = from_operand (by_opening (by_other (λ behind. form unnamed unnamed_minus ∷ mark words.Minus place (at_operand e behind)))) (λ behind. behind)
unary unaries.Not place e = from_operand (by_opening (by_other (λ behind. form unnamed unnamed_exclamation ∷ mark words.Exclamation place (at_operand e behind)))) (λ behind. behind)

-- primaries
abbrev pub by_form : Grows → Writing
by_form text = from_primary (by_opening (by_literal text)) (λ behind. behind)

abbrev pub number : ℤ → Place → Writing
number value place = by_form (λ behind. form literal literal_number ∷ placed (kinds.Number value) place ∷ behind)

abbrev pub truth : Bool → Place → Writing
truth true place = by_form (λ behind. form literal literal_true ∷ mark words.True place behind)
truth false place = by_form (λ behind. form literal literal_false ∷ mark words.False place behind)

abbrev pub name_alone : Name → Writing
name_alone n = record (from_primary (by_name n) (λ behind. form called [] ∷ behind)) { is_name = true }

abbrev pub parenthesized : List Grows → Grows
parenthesized a behind = word words.LeftParenthesis (arguments_text a (word words.RightParenthesis behind))

abbrev pub call_of : Name → List Grows → Writing
call_of n a = from_primary (by_name n) (λ behind. form called called_left_parenthesis ∷ parenthesized a behind)

abbrev pub two_apart : Writing → Writing → Grows
two_apart left right behind = whole left (word words.Comma (whole right (word words.RightParenthesis behind)))

abbrev pub two_in_pair : Writing → Writing → Grows
two_in_pair left right behind = pair_head left.head (left.whole_rest (word words.Comma (whole right (word words.RightParenthesis behind))))

abbrev pub extreme_of : Extreme → Place → Writing → Writing → Writing
extreme_of e place left right = from_primary (by_opening (by_extreme e place (two_in_pair left right) (two_apart left right))) (λ behind. behind)

abbrev pub parentheses : Place → Writing → Writing
parentheses place e = by_form (λ behind. form literal literal_left_parenthesis ∷ mark words.LeftParenthesis place (whole e (word words.RightParenthesis behind)))

abbrev pub list_of : Place → List Grows → Writing
list_of place a = by_form (λ behind. form literal literal_left_bracket ∷ mark words.LeftBracket place (listed_text a (word words.RightBracket behind)))

abbrev pub set_of : Place → List Grows → Writing
set_of place a = from_primary (by_opening (by_brace place (λ behind. listed_text a (word words.RightBrace behind)))) (λ behind. behind)

-- suffixes
abbrev pub suffix_text : layers.Suffix-F Grows Writing Grows GeneratorText GeneratorsText LinkText → Grows
suffix_text (layers.Index place index) behind = form suffixes suffixes_left_bracket ∷ mark words.LeftBracket place (whole index (form second [] ∷ word words.RightBracket behind))
suffix_text (layers.Cell place a b) behind = form suffixes suffixes_left_bracket ∷ mark words.LeftBracket place (whole a (form second second_comma ∷ word words.Comma (whole b
    (word words.RightBracket behind))))
suffix_text (layers.Method n a) behind = form suffixes suffixes_dot ∷ word words.Dot (name n (parenthesized a.items behind))

abbrev pub postfix_by : Option Grows → Head → List Grows → Writing
postfix_by None h all = unwritten
postfix_by (Some r) h [] = unwritten
postfix_by (Some r) h (s ∷ more) = from_operand h (λ behind. r (each (λ x. x) (s ∷ more) (form suffixes [] ∷ behind)))

-- one layer of an expression
abbrev pub option_value : {B : Type 0} → (B → Writing) → Option B → Option Writing
option_value f None = None
option_value f (Some b) = Some (f b)

abbrev pub expression_text : layers.Expression-F Grows Writing Grows GeneratorText GeneratorsText LinkText → Writing
expression_text (layers.Conditional test yes_part no_part) = conditional test.value yes_part.value no_part.value
expression_text (layers.Chain first links) = chain first.value links.items
expression_text (layers.Comparison left c place right) = comparison left.value c place right.value
expression_text (layers.Range low place high) = range_of low.value place high.value
expression_text (layers.Unary operator place e) = unary operator place e.value
expression_text (layers.Aggregate a place g body) = aggregate a place g.value body.value
expression_text (layers.Postfix primary all) = postfix_by primary.value.primary_rest primary.value.head all.items
expression_text (layers.Number value place) = number value place
expression_text (layers.Truth value place) = truth value place
expression_text (layers.Name n) = name_alone n
expression_text (layers.Call n a) = call_of n.value a.items
expression_text (layers.Extreme e place left right) = extreme_of e place left.value right.value
expression_text (layers.Parentheses place inner) = parentheses place inner.value
expression_text (layers.List place a) = list_of place a.items
expression_text (layers.Set place a) = set_of place a.items

abbrev pub generator_layer : layers.Generator-F Grows Writing Grows GeneratorText GeneratorsText LinkText → GeneratorText
generator_layer g = record { bound = g.name; domain = g.domain }

abbrev pub generators_layer : layers.Generators-F Grows Writing Grows GeneratorText GeneratorsText LinkText → GeneratorsText
generators_layer g = record { all = g.generators.items; only = option_value (λ b. b.value) g.condition }

abbrev pub link_layer : layers.Link-F Grows Writing Grows GeneratorText GeneratorsText LinkText → LinkText
link_layer l = record { operator = l.operator; text = link l.operator l.place l.operand }

unfoldable pub written : Expression → Writing
written = fold-Expression Grows Writing Grows GeneratorText GeneratorsText LinkText argument_text expression_text suffix_text generator_layer generators_layer link_layer

unfoldable pub written_argument : Argument → Grows
written_argument = fold-Argument Grows Writing Grows GeneratorText GeneratorsText LinkText argument_text expression_text suffix_text generator_layer generators_layer link_layer

unfoldable pub written_suffix : Suffix → Grows
written_suffix = fold-Suffix Grows Writing Grows GeneratorText GeneratorsText LinkText argument_text expression_text suffix_text generator_layer generators_layer link_layer

unfoldable pub written_generator : Generator → GeneratorText
written_generator = fold-Generator Grows Writing Grows GeneratorText GeneratorsText LinkText argument_text expression_text suffix_text generator_layer generators_layer link_layer

unfoldable pub written_generators : Generators → GeneratorsText
written_generators = fold-Generators Grows Writing Grows GeneratorText GeneratorsText LinkText argument_text expression_text suffix_text generator_layer generators_layer link_layer

unfoldable pub written_link : Link → LinkText
written_link = fold-Link Grows Writing Grows GeneratorText GeneratorsText LinkText argument_text expression_text suffix_text generator_layer generators_layer link_layer
