-- What a listing says, read from its end: a form takes the values of its symbols off a stack and puts the value of its part there.
use Rattle.std.specs.Prelude.{ℕ, Bool, true, false, List, [], ◌∷◌, Option, None, Some}
use Rattle.std.proofs.Common.{zero, suc}
use Rattle.cbl_base.specs.declared.place.Place.{Place}
use Rattle.comet_syntax.specs.declared.token.TokenKind.{TokenKind}
use Rattle.comet_syntax.specs.declared.token.TokenKind.TheVariants as kinds
use Rattle.comet_syntax.specs.declared.token.Word.{Word}
use Rattle.comet_syntax.specs.declared.token.Word.TheVariants as words
use Rattle.comet_syntax.specs.declared.tree.expressions.Name.{Name}
use Rattle.comet_syntax.specs.declared.tree.expressions.ChainOperator.{ChainOperator}
use Rattle.comet_syntax.specs.declared.tree.expressions.ChainOperator.TheVariants as chains
use Rattle.comet_syntax.specs.declared.tree.expressions.Comparison.{Comparison}
use Rattle.comet_syntax.specs.declared.tree.expressions.Comparison.TheVariants as comparisons
use Rattle.comet_syntax.specs.declared.tree.expressions.UnaryOperator.TheVariants as unaries
use Rattle.comet_syntax.specs.declared.tree.expressions.Extreme.{Extreme}
use Rattle.comet_syntax.specs.declared.tree.expressions.Extreme.TheVariants as extremes
use Rattle.comet_syntax.specs.declared.tree.expressions.Aggregate.{Aggregate}
use Rattle.comet_syntax.specs.declared.tree.expressions.Aggregate.TheVariants as aggregates
use Rattle.comet_syntax.specs.declared.tree.declarations.Class.{Class}
use Rattle.comet_syntax.specs.declared.tree.declarations.ClassKind.TheVariants as classes
use Rattle.comet_syntax.specs.declared.tree.declarations.Incremental.{Incremental}
use Rattle.comet_syntax.specs.declared.tree.declarations.Incremental.TheVariants as incrementals
use Rattle.comet_syntax.specs.declared.tree.statements.Events.{Events}
use Rattle.comet_syntax.specs.declared.tree.statements.Step.TheVariants as steps
use Rattle.comet_syntax.specs.declared.tree.statements.WithMode.{WithMode}
use Rattle.comet_syntax.specs.declared.tree.statements.WithMode.TheVariants as modes
use Rattle.comet_syntax.specs.declared.tree.statements.WriteOperator.TheVariants as writes
use Rattle.comet_syntax.specs.declared.tree.program.Parameter.{Parameter}
use Rattle.comet_syntax.specs.declared.tree.program.ParameterKind.{ParameterKind}
use Rattle.comet_syntax.specs.declared.tree.program.ParameterKind.TheVariants as parameters_as
use Rattle.comet_syntax.specs.declared.tree.program.ResultKind.{ResultKind}
use Rattle.comet_syntax.specs.declared.tree.program.ResultKind.TheVariants as results
use Rattle.comet_syntax.specs.Grammar.Symbols.{Part, Symbol, token, same, deeper, program, top, result_kind, parameters, parameters_tail, parameter, parameter_kind, brackets, template, class_name, block, statements, statement, otherwise, optional_value, for_start, for_step, events, with_mode, generators, generators_tail, condition, generator, declaration, int_rest, start_value, variable_rest, domain, variable_start, maker, dimensions, dimensions_tail, dimension, dimension_rest, simple, named_simple, new_value, write, first_name, item, items_tail, expression, branches, or_tail, and_tail, comparison_tail, range_tail, total_tail, product_tail, operand, unnamed, pair, pair_named, literal, extreme, postfix, called, suffixes, second, arguments, listed, arguments_tail, argument}
use Rattle.comet_syntax.specs.Written.Shown.{Shown, form, plain, placed}
use Rattle.parse_unique.specs.Bare.{Bare}

pub data Value : Type 0 where
  sign : TokenKind → Value
  marked : TokenKind → Place → Value
  nothing : Value
  tree : Bare → Value
  -- what stands behind the beginning of a part, from what that beginning is
  tail : (Bare → Bare) → Value
  of_name : (Name → Bare) → Value
  of_word : (Place → Word → Bare) → Value
  of_extreme : (Extreme → Place → Bare) → Value
  of_first : (Name → Extreme → Place → Bare) → Value
  template_is : Option Name → Value
  class_is : Class → Value
  mode_is : WithMode → Value
  events_are : Events → Value
  result_is : ResultKind → Value
  kind_is : ParameterKind → Place → Value
  parameter_is : Parameter → Value
  parameters_are : List Parameter → Value

abbrev pub Stack : Type 0
Stack = List Value

abbrev pub top_of : Stack → Value
top_of [] = nothing
top_of (v ∷ s) = v

abbrev pub below : Stack → Stack
below [] = []
below (v ∷ s) = s

abbrev pub under : ℕ → Stack → Stack
under zero s = s
under (suc n) s = below (under n s)

abbrev pub at : ℕ → Stack → Value
at n s = top_of (under n s)

abbrev pub no_place : Place
no_place = record { line = 0; col = 0 }

abbrev pub no_name : Name
no_name = record { text = []; place = no_place }

abbrev pub place_in : Value → Place
place_in (marked k p) = p
place_in v = no_place

abbrev pub kind_in : Value → TokenKind
kind_in (marked k p) = k
kind_in (sign k) = k
kind_in v = kinds.Word words.Comma

abbrev pub kind_word : TokenKind → Word
kind_word (kinds.Word w) = w
kind_word k = words.Comma

abbrev pub kind_text : TokenKind → List ℕ
kind_text (kinds.Name t) = t
kind_text (kinds.Str t) = t
kind_text k = []

abbrev pub word_in : Value → Word
word_in v = kind_word (kind_in v)

abbrev pub text_in : Value → List ℕ
text_in v = kind_text (kind_in v)

abbrev pub name_in : Value → Name
name_in v = record { text = text_in v; place = place_in v }

abbrev pub bare_in : Value → Bare
bare_in (tree b) = b
bare_in v = Bare.no_more

-- a list, or what is left out
abbrev pub list_in : Value → Bare
list_in (tree b) = b
list_in v = Bare.no_more

abbrev pub option_in : Value → Bare
option_in (tree b) = Bare.given b
option_in v = Bare.left_out

abbrev pub is_sign : Value → Bool
is_sign (sign k) = true
is_sign v = false

abbrev pub is_tree : Value → Bool
is_tree (tree k) = true
is_tree v = false

abbrev pub class_in : Value → Class
class_in (class_is c) = c
class_in v = record { place = no_place; kind = classes.LocalSolver }

abbrev pub template_in : Value → Option Name
template_in (template_is n) = n
template_in v = None

abbrev pub mode_in : Value → WithMode
mode_in (mode_is m) = m
mode_in v = modes.Atomic

abbrev pub events_in : Value → Option Events
events_in (events_are e) = Some e
events_in v = None

abbrev pub result_in : Value → ResultKind
result_in (result_is r) = r
result_in v = results.Void

abbrev pub kind_of : Value → ParameterKind
kind_of (kind_is k p) = k
kind_of v = parameters_as.Int

abbrev pub kind_place : Value → Place
kind_place (kind_is k p) = p
kind_place v = no_place

abbrev pub parameter_in : Value → Parameter
parameter_in (parameter_is p) = p
parameter_in v = record { place = no_place; kind = parameters_as.Int; name = no_name }

abbrev pub parameters_in : Value → List Parameter
parameters_in (parameters_are p) = p
parameters_in v = []

abbrev pub by_place : Value → Place → Word → Bare
by_place (of_word f) p w = f p w
by_place v p w = Bare.no_more

abbrev pub by_its_name : Value → Name → Bare
by_its_name (of_name f) n = f n
by_its_name v n = Bare.no_more

abbrev pub by_its_extreme : Value → Extreme → Place → Bare
by_its_extreme (of_extreme f) e p = f e p
by_its_extreme v e p = Bare.no_more

abbrev pub by_first : Value → Name → Extreme → Place → Bare
by_first (of_first f) n e p = f n e p
by_first v n e p = Bare.no_more

-- what a name is with its arguments, if it has some
abbrev pub named : Name → Value → Bare
named n (tree a) = Bare.call n a
named n v = Bare.name n

abbrev pub suffixed : Bare → Value → Bare
suffixed b (tree l) = Bare.postfix b l
suffixed b v = b

-- what stands behind an operand, at one level
abbrev pub behind : Value → Bare → Bare
behind (tree l) b = Bare.chain b l
behind (tail f) b = f b
behind v b = b

-- an operand, at the top of the stack, with so many levels behind it
abbrev pub after : ℕ → Bare → Stack → Bare
after zero b s = b
after (suc n) b s = behind (top_of (under (suc n) s)) (after n b s)

abbrev pub operand_of : ℕ → Stack → Bare
operand_of n s = after n (bare_in (top_of s)) s

abbrev pub operator_of : Word → ChainOperator
operator_of words.OrOr = chains.Or
operator_of words.AndAnd = chains.And
operator_of words.Plus = chains.Add
operator_of words.Minus = chains.Subtract
operator_of words.Star = chains.Multiply
operator_of words.Slash = chains.Divide
operator_of w = chains.Remainder

abbrev pub comparison_of : Word → Comparison
comparison_of words.EqualEqual = comparisons.Equal
comparison_of words.NotEqual = comparisons.NotEqual
comparison_of words.Less = comparisons.Less
comparison_of words.LessEqual = comparisons.LessEqual
comparison_of words.Greater = comparisons.Greater
comparison_of w = comparisons.GreaterEqual

abbrev pub extreme_by : Word → Extreme
extreme_by words.Min = extremes.Min
extreme_by w = extremes.Max

abbrev pub aggregate_by : Word → Aggregate
aggregate_by words.Sum = aggregates.Sum
aggregate_by words.All = aggregates.All
aggregate_by words.And = aggregates.And
aggregate_by words.Or = aggregates.Or
aggregate_by words.SetOf = aggregates.SetOf
aggregate_by words.ArgMin = aggregates.ArgMin
aggregate_by w = aggregates.ArgMax

abbrev pub least_or_greatest : Extreme → Aggregate
least_or_greatest extremes.Min = aggregates.Min
least_or_greatest extremes.Max = aggregates.Max

-- the first, where a form is empty, and else the second
abbrev pub unless_empty : List Symbol → Stack → Stack → Stack
unless_empty [] a b = a
unless_empty (x ∷ f) a b = b

abbrev pub unless_token : List Symbol → Stack → Stack → Stack
unless_token (token m k ∷ f) a b = b
unless_token f a b = a

abbrev pub choice : Bool → Stack → Stack → Stack
choice true a b = a
choice false a b = b

-- expressions
abbrev pub chain_step : ℕ → Stack → Stack
chain_step n s = tree (Bare.more (Bare.link (operator_of (word_in (top_of s))) (place_in (top_of s)) (operand_of n (below s))) (list_in (top_of (under (suc n) (below s))))) ∷ below (under (suc n) (below s))

abbrev pub unnamed_by : Word → Stack → Stack
unnamed_by words.LeftBrace s = tree (suffixed (Bare.set (place_in (top_of s)) (list_in (at 1 s))) (at 3 s)) ∷ under 4 s
unnamed_by words.Min s = tree (by_its_extreme (at 2 s) extremes.Min (place_in (top_of s))) ∷ under 3 s
unnamed_by words.Max s = tree (by_its_extreme (at 2 s) extremes.Max (place_in (top_of s))) ∷ under 3 s
unnamed_by words.Minus s = tree (Bare.unary unaries.Negative (place_in (top_of s)) (bare_in (at 1 s))) ∷ under 2 s
unnamed_by words.Exclamation s = tree (Bare.unary unaries.Not (place_in (top_of s)) (bare_in (at 1 s))) ∷ under 2 s
unnamed_by w s = tree (Bare.aggregate (aggregate_by w) (place_in (top_of s)) (bare_in (at 2 s)) (operand_of 1 (under 4 s))) ∷ under 2 (under 4 s)

abbrev pub literal_by : TokenKind → Stack → Stack
literal_by (kinds.Number n) s = tree (Bare.number n (place_in (top_of s))) ∷ below s
literal_by (kinds.Word words.True) s = tree (Bare.truth true (place_in (top_of s))) ∷ below s
literal_by (kinds.Word words.False) s = tree (Bare.truth false (place_in (top_of s))) ∷ below s
literal_by (kinds.Word words.LeftParenthesis) s = tree (Bare.parentheses (place_in (top_of s)) (bare_in (at 1 s))) ∷ under 3 s
literal_by k s = tree (Bare.list (place_in (top_of s)) (list_in (at 1 s))) ∷ under 3 s

abbrev pub postfix_by : Value → Stack → Stack
postfix_by (marked (kinds.Name t) p) s = tree (suffixed (named (name_in (top_of s)) (at 1 s)) (at 2 s)) ∷ under 3 s
postfix_by (tree b) s = tree (suffixed b (at 1 s)) ∷ under 2 s
postfix_by v s = tree (suffixed (Bare.set (place_in (top_of s)) (list_in (at 1 s))) (at 3 s)) ∷ under 4 s

abbrev pub pair_in : Stack → Stack
pair_in s = of_first (λ n e p. Bare.aggregate (least_or_greatest e) p (Bare.generators (Bare.more (Bare.generator n (bare_in (at 1 s))) (list_in (at 2 s))) (option_in (at 3 s))) (operand_of 1 (under 5 s))) ∷ under 2 (under 5 s)

abbrev pub pair_called : Stack → Stack
pair_called s = of_first (λ n e p. suffixed (Bare.extreme e p (after 7 (suffixed (named n (top_of s)) (at 1 s)) (below s)) (bare_in (at 1 (under 8 (below s))))) (at 3 (under 8 (below s)))) ∷ under 4 (under 8 (below s))

abbrev pub unnamed_pair : Stack → Stack
unnamed_pair s = of_extreme (λ e p. suffixed (Bare.extreme e p (operand_of 7 s) (bare_in (at 1 (under 8 s)))) (at 3 (under 8 s))) ∷ under 4 (under 8 s)

abbrev pub item_in : Value → Bare
item_in (tree b) = Bare.value b
item_in (sign (kinds.Str t)) = Bare.text t
item_in v = Bare.end_line

-- a list goes on: a comma or the like, one more, and the others
abbrev pub one_more : Stack → Stack
one_more s = tree (Bare.more (bare_in (at 1 s)) (list_in (at 2 s))) ∷ under 3 s

-- what stands behind a word
abbrev pub behind_word : Stack → Stack
behind_word s = at 1 s ∷ under 2 s

abbrev pub index_or_cell : Value → Stack → Bare
index_or_cell (tree b) s = Bare.cell (place_in (top_of s)) (bare_in (at 1 s)) b
index_or_cell v s = Bare.index (place_in (top_of s)) (bare_in (at 1 s))

abbrev pub suffix_step : Bool → Stack → Stack
suffix_step true s = tree (Bare.more (Bare.method (name_in (at 1 s)) (list_in (at 3 s))) (list_in (at 5 s))) ∷ under 6 s
suffix_step false s = tree (Bare.more (index_or_cell (at 2 s) s) (list_in (at 4 s))) ∷ under 5 s

-- declarations
abbrev pub class_by : Word → Stack → Stack
class_by words.Solver s = class_is (record { place = place_in (top_of s); kind = classes.Solver (name_in (at 2 s)) }) ∷ under 4 s
class_by words.LocalSolver s = class_is (record { place = place_in (top_of s); kind = classes.LocalSolver }) ∷ below s
class_by words.ConstraintSystem s = class_is (record { place = place_in (top_of s); kind = classes.ConstraintSystem (template_in (at 1 s)) }) ∷ under 2 s
class_by words.FunctionExpr s = class_is (record { place = place_in (top_of s); kind = classes.FunctionExpr (template_in (at 1 s)) }) ∷ under 2 s
class_by words.FunctionSum s = class_is (record { place = place_in (top_of s); kind = classes.FunctionSum (template_in (at 1 s)) }) ∷ under 2 s
class_by words.UniformDistribution s = class_is (record { place = place_in (top_of s); kind = classes.UniformDistribution }) ∷ below s
class_by words.InputFile s = class_is (record { place = place_in (top_of s); kind = classes.InputFile }) ∷ below s
class_by words.MinNeighborSelector s = class_is (record { place = place_in (top_of s); kind = classes.MinNeighborSelector }) ∷ below s
class_by words.BestMonitor s = class_is (record { place = place_in (top_of s); kind = classes.BestMonitor }) ∷ below s
class_by w s = class_is (record { place = place_in (top_of s); kind = classes.Solution }) ∷ below s

abbrev pub declaration_by : Word → Stack → Stack
declaration_by words.Int s = tree (by_place (at 1 s) (place_in (top_of s)) words.Int) ∷ under 2 s
declaration_by words.Bool s = tree (Bare.bool_variable (place_in (top_of s)) (name_in (at 1 s)) (option_in (at 2 s))) ∷ under 3 s
declaration_by words.Range s = tree (Bare.range_variable (place_in (top_of s)) (name_in (at 1 s)) (bare_in (at 3 s))) ∷ under 4 s
declaration_by words.Set s = tree (Bare.set_variable (place_in (top_of s)) (name_in (at 4 s)) (option_in (at 5 s))) ∷ under 6 s
declaration_by w s = tree (by_place (at 2 s) (place_in (top_of s)) w) ∷ under 3 s

abbrev pub int_rest_step : Bool → Stack → Stack
int_rest_step true s = of_word (λ p w. Bare.int_array p (name_in (at 2 s)) (bare_in (at 4 s))) ∷ under 5 s
int_rest_step false s = of_word (λ p w. Bare.int_variable p (name_in (top_of s)) (option_in (at 1 s)) (option_in (at 2 s))) ∷ under 3 s

abbrev pub incremental_by : Word → Incremental
incremental_by words.Var = incrementals.Var
incremental_by w = incrementals.Inc

abbrev pub variable_by : Word → Stack → Stack
variable_by words.Int s = of_word (λ p w. Bare.incremental_int p (incremental_by w) (name_in (at 2 s)) (option_in (at 3 s)) (name_in (at 5 s)) (option_in (at 6 s)) (option_in (at 8 s))) ∷ under 9 s
variable_by w' s = of_word (λ p w. Bare.incremental_set p (incremental_by w) (name_in (at 5 s)) (option_in (at 6 s)) (name_in (at 8 s)) (bare_in (at 11 s))) ∷ under 12 s

abbrev pub variable_start_by : Word → Stack → Stack
variable_start_by words.Assign s = tree (Bare.assigned (bare_in (at 1 s))) ∷ under 2 s
variable_start_by w s = tree (Bare.defined (bare_in (at 1 s))) ∷ under 2 s

abbrev pub maker_by : Word → Stack → Stack
maker_by words.LeftParenthesis s = tree (Bare.direct (list_in (at 1 s))) ∷ under 3 s
maker_by w s = tree (Bare.made (class_in (at 2 s)) (list_in (at 4 s))) ∷ under 6 s

abbrev pub dimension_rest_step : Bool → Stack → Stack
dimension_rest_step true s = of_name (λ n. Bare.dimension (Some n) (bare_in (at 1 s))) ∷ under 2 s
dimension_rest_step false s = of_name (λ n. Bare.dimension None (after 7 (suffixed (named n (top_of s)) (at 1 s)) (below s))) ∷ under 8 (below s)

-- statements
abbrev pub simple_by : Word → Stack → Stack
simple_by words.Cout s = tree (Bare.print (place_in (top_of s)) (Bare.more (bare_in (at 2 s)) (list_in (at 3 s)))) ∷ under 4 s
simple_by w s = tree (Bare.call_chosen (place_in (top_of s)) (bare_in (at 2 s))) ∷ under 4 s

abbrev pub simple_step : List Symbol → Stack → Stack
simple_step (token m k ∷ f) s = simple_by (word_in (top_of s)) s
simple_step (deeper first_name ∷ f) s = tree (by_its_name (at 1 s) (name_in (top_of s))) ∷ under 2 s
simple_step f s = tree (behind (at 2 s) (suffixed (bare_in (top_of s)) (at 1 s))) ∷ under 3 s

abbrev pub named_simple_step : Bool → Stack → Stack
named_simple_step true s = at 1 s ∷ under 2 s
named_simple_step false s = of_name (λ n. behind (at 2 s) (suffixed (named n (top_of s)) (at 1 s))) ∷ under 3 s

abbrev pub new_value_step : Bool → Stack → Stack
new_value_step true s = of_name (λ n. Bare.new n (class_in (at 1 s)) (list_in (at 3 s))) ∷ under 5 s
new_value_step false s = of_name (λ n. Bare.write (Bare.name n) writes.Set (bare_in (top_of s))) ∷ below s

abbrev pub write_by : Word → Stack → Stack
write_by words.Equal s = tail (λ b. Bare.write b writes.Set (bare_in (at 1 s))) ∷ under 2 s
write_by words.PlusEqual s = tail (λ b. Bare.write b writes.Add (bare_in (at 1 s))) ∷ under 2 s
write_by words.MinusEqual s = tail (λ b. Bare.write b writes.Subtract (bare_in (at 1 s))) ∷ under 2 s
write_by words.Assign s = tail (λ b. Bare.write b writes.Assign (bare_in (at 1 s))) ∷ under 2 s
write_by words.Arrow s = tail (λ b. Bare.write b writes.Define (bare_in (at 1 s))) ∷ under 2 s
write_by words.Swap s = tail (λ b. Bare.swap b (bare_in (at 1 s))) ∷ under 2 s
write_by words.PlusPlus s = tail (λ b. Bare.step b steps.Increment) ∷ below s
write_by w s = tail (λ b. Bare.step b steps.Decrement) ∷ below s

abbrev pub statement_by : Word → Stack → Stack
statement_by words.Semicolon s = tree (Bare.empty (place_in (top_of s))) ∷ below s
statement_by words.Return s = tree (Bare.return_value (place_in (top_of s)) (option_in (at 1 s))) ∷ under 3 s
statement_by words.If s = tree (Bare.when (place_in (top_of s)) (bare_in (at 2 s)) (bare_in (at 4 s)) (option_in (at 5 s))) ∷ under 6 s
statement_by words.While s = tree (Bare.while_true (place_in (top_of s)) (bare_in (at 2 s)) (bare_in (at 4 s))) ∷ under 5 s
statement_by words.For s = tree (Bare.for_each_step (place_in (top_of s)) (option_in (at 2 s)) (option_in (at 4 s)) (option_in (at 6 s)) (bare_in (at 8 s))) ∷ under 9 s
statement_by words.ForAll s = tree (Bare.for_all (place_in (top_of s)) (bare_in (at 2 s)) (bare_in (at 4 s))) ∷ under 5 s
statement_by words.Select s = tree (Bare.select (place_in (top_of s)) (bare_in (at 2 s)) (bare_in (at 4 s))) ∷ under 5 s
statement_by words.SelectMin s = tree (Bare.select_by (place_in (top_of s)) extremes.Min (bare_in (at 2 s)) (bare_in (at 5 s)) (bare_in (at 7 s))) ∷ under 8 s
statement_by words.SelectMax s = tree (Bare.select_by (place_in (top_of s)) extremes.Max (bare_in (at 2 s)) (bare_in (at 5 s)) (bare_in (at 7 s))) ∷ under 8 s
statement_by words.Neighbor s = tree (Bare.neighbor (place_in (top_of s)) (bare_in (at 2 s)) (name_in (at 4 s)) (bare_in (at 6 s))) ∷ under 7 s
statement_by words.Whenever s = tree (Bare.whenever (place_in (top_of s)) (bare_in (at 1 s)) (name_in (at 3 s)) (events_in (at 5 s)) (bare_in (at 7 s))) ∷ under 8 s
statement_by words.With s = tree (Bare.with_mode (place_in (top_of s)) (mode_in (at 1 s)) (name_in (at 3 s)) (bare_in (at 5 s))) ∷ under 6 s
statement_by w s = tree (Bare.parall (place_in (top_of s)) (name_in (at 2 s)) (bare_in (at 4 s)) (bare_in (at 6 s))) ∷ under 7 s

abbrev pub statement_step : List Symbol → Stack → Stack
statement_step (token m k ∷ f) s = statement_by (word_in (top_of s)) s
statement_step (same block ∷ f) s = tree (Bare.block_statement (bare_in (top_of s))) ∷ below s
statement_step (same declaration ∷ f) s = tree (Bare.declaration (bare_in (top_of s))) ∷ under 2 s
statement_step f s = tree (Bare.simple (bare_in (top_of s))) ∷ under 2 s

abbrev pub mode_by : Word → WithMode
mode_by words.Atomic = modes.Atomic
mode_by w = modes.Delay

-- programs
abbrev pub result_by : Word → ResultKind
result_by words.Void = results.Void
result_by words.Int = results.Int
result_by w = results.Bool

abbrev pub int_kind : Value → ParameterKind
int_kind (tree b) = parameters_as.IntArray
int_kind v = parameters_as.Int

abbrev pub variable_kind : Incremental → Value → ParameterKind
variable_kind w (tree b) = parameters_as.VariableArray w
variable_kind w v = parameters_as.Variable w

abbrev pub parameter_kind_by : Word → Stack → Stack
parameter_kind_by words.Int s = kind_is (int_kind (at 1 s)) (place_in (top_of s)) ∷ under 2 s
parameter_kind_by words.Bool s = kind_is parameters_as.Bool (place_in (top_of s)) ∷ below s
parameter_kind_by words.Range s = kind_is parameters_as.Range (place_in (top_of s)) ∷ below s
parameter_kind_by words.Set s = kind_is parameters_as.Set (place_in (top_of s)) ∷ under 4 s
parameter_kind_by words.Var s = kind_is (variable_kind incrementals.Var (at 4 s)) (place_in (top_of s)) ∷ under 5 s
parameter_kind_by words.Inc s = kind_is (variable_kind incrementals.Inc (at 4 s)) (place_in (top_of s)) ∷ under 5 s
parameter_kind_by words.Solver s = kind_is (parameters_as.Solver (name_in (at 2 s))) (place_in (top_of s)) ∷ under 4 s
parameter_kind_by words.LocalSolver s = kind_is parameters_as.LocalSolver (place_in (top_of s)) ∷ below s
parameter_kind_by words.ConstraintSystem s = kind_is (parameters_as.ConstraintSystem (template_in (at 1 s))) (place_in (top_of s)) ∷ under 2 s
parameter_kind_by w s = kind_is parameters_as.BestMonitor (place_in (top_of s)) ∷ below s

abbrev pub top_by : Word → Stack → Stack
top_by words.Import s = tree (Bare.import (name_in (at 1 s))) ∷ under 3 s
top_by words.Include s = tree (Bare.include (text_in (at 1 s))) ∷ under 3 s
top_by w s = tree (Bare.function (place_in (top_of s)) (result_in (at 1 s)) (name_in (at 2 s)) (parameters_in (at 4 s)) (bare_in (at 6 s))) ∷ under 7 s

-- what a form makes of the values of its symbols
abbrev pub part_step : Part → List Symbol → Stack → Stack
part_step expression f s = tree (operand_of 7 s) ∷ under 8 s
part_step branches f s = unless_empty f (nothing ∷ s) (tail (λ test. Bare.conditional test (bare_in (at 1 s)) (bare_in (at 3 s))) ∷ under 4 s)
part_step or_tail f s = unless_empty f (nothing ∷ s) (chain_step 5 s)
part_step and_tail f s = unless_empty f (nothing ∷ s) (chain_step 4 s)
part_step comparison_tail f s = unless_empty f (nothing ∷ s) (tail (λ left. Bare.comparison left (comparison_of (word_in (top_of s))) (place_in (top_of s)) (operand_of 3 (below s))) ∷ under 4 (below s))
part_step range_tail f s = unless_empty f (nothing ∷ s) (tail (λ low. Bare.range low (place_in (top_of s)) (operand_of 2 (below s))) ∷ under 3 (below s))
part_step total_tail f s = unless_empty f (nothing ∷ s) (chain_step 1 s)
part_step product_tail f s = unless_empty f (nothing ∷ s) (chain_step 0 s)
part_step operand f s = unless_token f s (tree (suffixed (named (name_in (top_of s)) (at 1 s)) (at 2 s)) ∷ under 3 s)
part_step unnamed f s = unless_token f (tree (suffixed (bare_in (top_of s)) (at 1 s)) ∷ under 2 s) (unnamed_by (word_in (top_of s)) s)
part_step pair f s = choice (is_tree (top_of s)) (unnamed_pair s) (of_extreme (by_first (at 1 s) (name_in (top_of s))) ∷ under 2 s)
part_step pair_named f s = choice (is_sign (top_of s)) (pair_in s) (pair_called s)
part_step literal f s = literal_by (kind_in (top_of s)) s
part_step extreme f s = tree (Bare.extreme (extreme_by (word_in (top_of s))) (place_in (top_of s)) (bare_in (at 2 s)) (bare_in (at 4 s))) ∷ under 6 s
part_step postfix f s = postfix_by (top_of s) s
part_step called f s = unless_empty f (nothing ∷ s) (at 1 s ∷ under 3 s)
part_step suffixes f s = unless_empty f (nothing ∷ s) (suffix_step (is_sign (top_of s)) s)
part_step second f s = unless_empty f (nothing ∷ s) (behind_word s)
part_step arguments f s = unless_empty f (tree Bare.no_more ∷ s) s
part_step listed f s = tree (Bare.more (bare_in (top_of s)) (list_in (at 1 s))) ∷ under 2 s
part_step arguments_tail f s = unless_empty f (nothing ∷ s) (one_more s)
part_step argument f s = tree (item_in (top_of s)) ∷ below s
part_step generators f s = tree (Bare.generators (Bare.more (bare_in (top_of s)) (list_in (at 1 s))) (option_in (at 2 s))) ∷ under 3 s
part_step generators_tail f s = unless_empty f (nothing ∷ s) (one_more s)
part_step condition f s = unless_empty f (nothing ∷ s) (behind_word s)
part_step generator f s = tree (Bare.generator (name_in (top_of s)) (bare_in (at 2 s))) ∷ under 3 s
part_step first_name f s = s
part_step template f s = unless_empty f (template_is None ∷ s) (template_is (Some (name_in (at 1 s))) ∷ under 3 s)
part_step class_name f s = class_by (word_in (top_of s)) s
part_step declaration f s = unless_token f (tree (Bare.object (class_in (top_of s)) (name_in (at 1 s)) (bare_in (at 2 s))) ∷ under 3 s) (declaration_by (word_in (top_of s)) s)
part_step int_rest f s = int_rest_step (is_sign (top_of s)) s
part_step start_value f s = unless_empty f (nothing ∷ s) (behind_word s)
part_step variable_rest f s = variable_by (word_in (top_of s)) s
part_step domain f s = unless_empty f (nothing ∷ s) (behind_word s)
part_step variable_start f s = unless_empty f (nothing ∷ s) (variable_start_by (word_in (top_of s)) s)
part_step maker f s = maker_by (word_in (top_of s)) s
part_step dimensions f s = unless_empty f (nothing ∷ s) (tree (Bare.dimensions (bare_in (at 1 s)) (option_in (at 2 s))) ∷ under 4 s)
part_step dimensions_tail f s = unless_empty f (nothing ∷ s) (behind_word s)
part_step dimension f s = unless_token f (tree (Bare.dimension None (operand_of 7 s)) ∷ under 8 s) (tree (by_its_name (at 1 s) (name_in (top_of s))) ∷ under 2 s)
part_step dimension_rest f s = dimension_rest_step (is_sign (top_of s)) s
part_step block f s = tree (Bare.block (place_in (top_of s)) (list_in (at 1 s))) ∷ under 3 s
part_step statements f s = unless_empty f (nothing ∷ s) (tree (Bare.more (bare_in (top_of s)) (list_in (at 1 s))) ∷ under 2 s)
part_step statement f s = statement_step f s
part_step otherwise f s = unless_empty f (nothing ∷ s) (behind_word s)
part_step optional_value f s = unless_empty f (nothing ∷ s) s
part_step for_start f s = unless_empty f (nothing ∷ s) (tree (Bare.for_start (name_in (at 1 s)) (bare_in (at 3 s))) ∷ under 4 s)
part_step for_step f s = unless_empty f (nothing ∷ s) s
part_step events f s = unless_empty f (nothing ∷ s) (events_are (record { old = name_in (at 1 s); new = name_in (at 4 s) }) ∷ under 5 s)
part_step with_mode f s = mode_is (mode_by (word_in (top_of s))) ∷ below s
part_step simple f s = simple_step f s
part_step named_simple f s = named_simple_step (is_sign (top_of s)) s
part_step new_value f s = new_value_step (is_sign (top_of s)) s
part_step write f s = unless_empty f (tail Bare.alone ∷ s) (write_by (word_in (top_of s)) s)
part_step item f s = tree (item_in (top_of s)) ∷ below s
part_step items_tail f s = unless_empty f (nothing ∷ s) (one_more s)
part_step program f s = unless_empty f (nothing ∷ s) (tree (Bare.more (bare_in (top_of s)) (list_in (at 1 s))) ∷ under 2 s)
part_step top f s = unless_token f (tree (Bare.top_statement (bare_in (top_of s))) ∷ below s) (top_by (word_in (top_of s)) s)
part_step result_kind f s = result_is (result_by (word_in (top_of s))) ∷ below s
part_step parameters f s = unless_empty f (parameters_are [] ∷ s) (parameters_are (parameter_in (top_of s) ∷ parameters_in (at 1 s)) ∷ under 2 s)
part_step parameters_tail f s = unless_empty f (parameters_are [] ∷ s) (parameters_are (parameter_in (at 1 s) ∷ parameters_in (at 2 s)) ∷ under 3 s)
part_step parameter f s = parameter_is (record { place = kind_place (top_of s); kind = kind_of (top_of s); name = name_in (at 1 s) }) ∷ under 2 s
part_step parameter_kind f s = parameter_kind_by (word_in (top_of s)) s
part_step brackets f s = unless_empty f (nothing ∷ s) (tree Bare.no_more ∷ under 2 s)

abbrev pub stepped : Shown → Stack → Stack
stepped (form n f) s = part_step n f s
stepped (plain k) s = sign k ∷ s
stepped (placed k p) s = marked k p ∷ s

abbrev pub valued : List Shown → Stack
valued [] = []
valued (x ∷ xs) = stepped x (valued xs)

-- how often a program ends
abbrev pub ends_of : Part → List Symbol → ℕ → ℕ
ends_of program [] n = suc n
ends_of m f n = n

abbrev pub counted : Shown → ℕ → ℕ
counted (form m f) n = ends_of m f n
counted (plain k) n = n
counted (placed k p) n = n

abbrev pub ends : List Shown → ℕ
ends [] = 0
ends (x ∷ xs) = counted x (ends xs)
