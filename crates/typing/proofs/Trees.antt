-- What a tree's judgement is, by its form.
use Rattle.std.specs.Prelude.{◌≡◌, refl, ℕ, ℤ, Bool, List, [], ◌∷◌, map, Option, option_map}
use Rattle.std.proofs.Common.{sym, ap, ◌∙◌}
use Rattle.std.specs.declared.boxed.Box.{Box}
use Rattle.std.specs.declared.alloc.Global.{Global}
use Rattle.std.specs.declared.vec.Vec.{Vec}
use Rattle.cbl_base.specs.declared.place.Place.{Place}
use Rattle.comet_syntax.specs.declared.tree.expressions.Name.{Name}
use Rattle.comet_syntax.specs.declared.tree.expressions.Comparison.{Comparison}
use Rattle.comet_syntax.specs.declared.tree.expressions.UnaryOperator.{UnaryOperator}
use Rattle.comet_syntax.specs.declared.tree.expressions.Extreme.{Extreme}
use Rattle.comet_syntax.specs.declared.tree.expressions.Aggregate.{Aggregate}
use Rattle.comet_syntax.specs.declared.tree.expressions.Argument.{Argument}
use Rattle.comet_syntax.specs.declared.tree.expressions.Argument.TheVariants as arguments
use Rattle.comet_syntax.specs.declared.tree.expressions.Expression.{Expression}
use Rattle.comet_syntax.specs.declared.tree.expressions.Expression.TheVariants as trees
use Rattle.comet_syntax.specs.declared.tree.expressions.Suffix.{Suffix}
use Rattle.comet_syntax.specs.declared.tree.expressions.Suffix.TheVariants as suffixes
use Rattle.comet_syntax.specs.declared.tree.expressions.Generators.{Generators}
use Rattle.comet_syntax.specs.declared.tree.expressions.Link.{Link}
use Rattle.comet_syntax.specs.declared.tree.expressions.Argument.TheOpen as layers
use Rattle.comet_syntax.specs.declared.tree.expressions.Argument.TheFolds.{fold-roll-Expression, fold-roll-Argument, fold-roll-Suffix}
use Rattle.checked_tree.specs.declared.kind.Kind.TheVariants as kind
use Rattle.checked_tree.specs.Shape as shapes
use Rattle.type_rules.specs.declared.context.Context.{Context}
use Rattle.type_rules.specs.Rules.{plain}
use Rattle.type_scopes.specs.State.{give}
use Rattle.type_calls.specs.Arguments.{made}
use Rattle.type_expressions.specs.Expressions.{Judge, Suffixed, Generated, Generating, Linked, argument_layer, expression_layer, suffix_layer, generator_layer, generators_layer, link_layer, judge, judge_argument, judge_suffix, judge_generator, judge_generators, judge_link, name_form, unary_form, comparison_form, range_form, conditional_form, parentheses_form, extreme_form, chain_form, list_form, set_form, aggregate_form, call_form, index_form, cell_form, method_form, postfix_form, first_operator_context, operator_context}
use Rattle.type_expressions.proofs.Judged.{link_is, generated_is, condition_is}
use Rattle.typing.specs.Rules.{first_operand_context, generators_in, condition_in}

abbrev pub number_by : ℤ → Place → Judge
number_by n place = λ scope. made place place (shapes.number n) (plain kind.Int)

abbrev pub truth_by : Bool → Place → Judge
truth_by b place = λ scope. made place place (shapes.truth b) (plain kind.Bool)

abbrev pub string_by : List ℕ → Judge
string_by t = λ scope. give (shapes.quoted t)

abbrev pub generating : List Generated → Option Judge → Generating
generating gs c = record { generators = gs; condition = c }

pub judge_number : (n : ℤ) (place : Place) → judge (trees.Number n place) ≡ number_by n place
unfolding judge judge_argument judge_suffix judge_generator judge_generators judge_link
judge_number n place = ap judge (sym (trees.rolls-Number n place)) ∙ fold-roll-Expression Judge Judge Suffixed Generated Generating Linked argument_layer expression_layer suffix_layer generator_layer generators_layer link_layer (layers.Number n place)

pub judge_truth : (b : Bool) (place : Place) → judge (trees.Truth b place) ≡ truth_by b place
unfolding judge judge_argument judge_suffix judge_generator judge_generators judge_link
judge_truth b place = ap judge (sym (trees.rolls-Truth b place)) ∙ fold-roll-Expression Judge Judge Suffixed Generated Generating Linked argument_layer expression_layer suffix_layer generator_layer generators_layer link_layer (layers.Truth b place)

pub judge_name : (n : Name) → judge (trees.Name n) ≡ name_form n
unfolding judge judge_argument judge_suffix judge_generator judge_generators judge_link
judge_name n = ap judge (sym (trees.rolls-Name n)) ∙ fold-roll-Expression Judge Judge Suffixed Generated Generating Linked argument_layer expression_layer suffix_layer generator_layer generators_layer link_layer (layers.Name n)

pub judge_unary : (o : UnaryOperator) (place : Place) (a : Box Expression Global) → judge (trees.Unary o place a) ≡ unary_form o place (judge a.value)
unfolding judge judge_argument judge_suffix judge_generator judge_generators judge_link
judge_unary o place a = ap judge (sym (trees.rolls-Unary o place a)) ∙ fold-roll-Expression Judge Judge Suffixed Generated Generating Linked argument_layer expression_layer suffix_layer generator_layer generators_layer link_layer (layers.Unary o place a)

pub judge_comparison : (a : Box Expression Global) (c : Comparison) (place : Place) (b : Box Expression Global) → judge (trees.Comparison a c place b) ≡ comparison_form (judge a.value) c place (judge b.value)
unfolding judge judge_argument judge_suffix judge_generator judge_generators judge_link
judge_comparison a c place b = ap judge (sym (trees.rolls-Comparison a c place b)) ∙ fold-roll-Expression Judge Judge Suffixed Generated Generating Linked argument_layer expression_layer suffix_layer generator_layer generators_layer link_layer (layers.Comparison a c place b)

pub judge_range : (a : Box Expression Global) (place : Place) (b : Box Expression Global) → judge (trees.Range a place b) ≡ range_form (judge a.value) place (judge b.value)
unfolding judge judge_argument judge_suffix judge_generator judge_generators judge_link
judge_range a place b = ap judge (sym (trees.rolls-Range a place b)) ∙ fold-roll-Expression Judge Judge Suffixed Generated Generating Linked argument_layer expression_layer suffix_layer generator_layer generators_layer link_layer (layers.Range a place b)

pub judge_conditional : (c : Box Expression Global) (a : Box Expression Global) (b : Box Expression Global) → judge (trees.Conditional c a b) ≡ conditional_form (judge c.value) (judge a.value) (judge b.value)
unfolding judge judge_argument judge_suffix judge_generator judge_generators judge_link
judge_conditional c a b = ap judge (sym (trees.rolls-Conditional c a b)) ∙ fold-roll-Expression Judge Judge Suffixed Generated Generating Linked argument_layer expression_layer suffix_layer generator_layer generators_layer link_layer (layers.Conditional c a b)

pub judge_parentheses : (place : Place) (a : Box Expression Global) → judge (trees.Parentheses place a) ≡ parentheses_form place (judge a.value)
unfolding judge judge_argument judge_suffix judge_generator judge_generators judge_link
judge_parentheses place a = ap judge (sym (trees.rolls-Parentheses place a)) ∙ fold-roll-Expression Judge Judge Suffixed Generated Generating Linked argument_layer expression_layer suffix_layer generator_layer generators_layer link_layer (layers.Parentheses place a)

pub judge_extreme : (e : Extreme) (place : Place) (a : Box Expression Global) (b : Box Expression Global) → judge (trees.Extreme e place a b) ≡ extreme_form e place (judge a.value) (judge b.value)
unfolding judge judge_argument judge_suffix judge_generator judge_generators judge_link
judge_extreme e place a b = ap judge (sym (trees.rolls-Extreme e place a b)) ∙ fold-roll-Expression Judge Judge Suffixed Generated Generating Linked argument_layer expression_layer suffix_layer generator_layer generators_layer link_layer (layers.Extreme e place a b)

pub judge_chain : (a : Box Expression Global) (ls : Vec Link Global) → judge (trees.Chain a ls) ≡ chain_form (judge a.value) (map judge_link ls.items)
unfolding judge judge_argument judge_suffix judge_generator judge_generators judge_link
judge_chain a ls = ap judge (sym (trees.rolls-Chain a ls)) ∙ fold-roll-Expression Judge Judge Suffixed Generated Generating Linked argument_layer expression_layer suffix_layer generator_layer generators_layer link_layer (layers.Chain a ls)

pub judge_list : (place : Place) (all : Vec Argument Global) → judge (trees.List place all) ≡ list_form place (map judge_argument all.items)
unfolding judge judge_argument judge_suffix judge_generator judge_generators judge_link
judge_list place all = ap judge (sym (trees.rolls-List place all)) ∙ fold-roll-Expression Judge Judge Suffixed Generated Generating Linked argument_layer expression_layer suffix_layer generator_layer generators_layer link_layer (layers.List place all)

pub judge_set : (place : Place) (all : Vec Argument Global) → judge (trees.Set place all) ≡ set_form place (map judge_argument all.items)
unfolding judge judge_argument judge_suffix judge_generator judge_generators judge_link
judge_set place all = ap judge (sym (trees.rolls-Set place all)) ∙ fold-roll-Expression Judge Judge Suffixed Generated Generating Linked argument_layer expression_layer suffix_layer generator_layer generators_layer link_layer (layers.Set place all)

pub judge_call : (n : Box Name Global) (all : Vec Argument Global) → judge (trees.Call n all) ≡ call_form n.value (map judge_argument all.items)
unfolding judge judge_argument judge_suffix judge_generator judge_generators judge_link
judge_call n all = ap judge (sym (trees.rolls-Call n all)) ∙ fold-roll-Expression Judge Judge Suffixed Generated Generating Linked argument_layer expression_layer suffix_layer generator_layer generators_layer link_layer (layers.Call n all)

pub judge_postfix : (a : Box Expression Global) (all : Vec Suffix Global) → judge (trees.Postfix a all) ≡ postfix_form (judge a.value) (map judge_suffix all.items)
unfolding judge judge_argument judge_suffix judge_generator judge_generators judge_link
judge_postfix a all = ap judge (sym (trees.rolls-Postfix a all)) ∙ fold-roll-Expression Judge Judge Suffixed Generated Generating Linked argument_layer expression_layer suffix_layer generator_layer generators_layer link_layer (layers.Postfix a all)

pub judge_folded_aggregate : (o : Aggregate) (place : Place) (g : Box Generators Global) (b : Box Expression Global) → judge (trees.Aggregate o place g b) ≡ aggregate_form o place (judge_generators g.value) (judge b.value)
unfolding judge judge_argument judge_suffix judge_generator judge_generators judge_link
judge_folded_aggregate o place g b = ap judge (sym (trees.rolls-Aggregate o place g b)) ∙ fold-roll-Expression Judge Judge Suffixed Generated Generating Linked argument_layer expression_layer suffix_layer generator_layer generators_layer link_layer (layers.Aggregate o place g b)

pub judge_argument_expression : (e : Expression) → judge_argument (arguments.Expression e) ≡ judge e
unfolding judge judge_argument judge_suffix judge_generator judge_generators judge_link
judge_argument_expression e = ap judge_argument (sym (arguments.rolls-Expression e)) ∙ fold-roll-Argument Judge Judge Suffixed Generated Generating Linked argument_layer expression_layer suffix_layer generator_layer generators_layer link_layer (layers.Expression e)

pub judge_argument_string : (t : List ℕ) → judge_argument (arguments.Str t) ≡ string_by t
unfolding judge judge_argument judge_suffix judge_generator judge_generators judge_link
judge_argument_string t = ap judge_argument (sym (arguments.rolls-Str t)) ∙ fold-roll-Argument Judge Judge Suffixed Generated Generating Linked argument_layer expression_layer suffix_layer generator_layer generators_layer link_layer (layers.Str t)

pub judge_suffix_index : (place : Place) (e : Expression) → judge_suffix (suffixes.Index place e) ≡ index_form place (judge e)
unfolding judge judge_argument judge_suffix judge_generator judge_generators judge_link
judge_suffix_index place e = ap judge_suffix (sym (suffixes.rolls-Index place e)) ∙ fold-roll-Suffix Judge Judge Suffixed Generated Generating Linked argument_layer expression_layer suffix_layer generator_layer generators_layer link_layer (layers.Index place e)

pub judge_suffix_cell : (place : Place) (a : Expression) (b : Expression) → judge_suffix (suffixes.Cell place a b) ≡ cell_form place (judge a) (judge b)
unfolding judge judge_argument judge_suffix judge_generator judge_generators judge_link
judge_suffix_cell place a b = ap judge_suffix (sym (suffixes.rolls-Cell place a b)) ∙ fold-roll-Suffix Judge Judge Suffixed Generated Generating Linked argument_layer expression_layer suffix_layer generator_layer generators_layer link_layer (layers.Cell place a b)

pub judge_suffix_method : (n : Name) (all : Vec Argument Global) → judge_suffix (suffixes.Method n all) ≡ method_form n (map judge_argument all.items)
unfolding judge judge_argument judge_suffix judge_generator judge_generators judge_link
judge_suffix_method n all = ap judge_suffix (sym (suffixes.rolls-Method n all)) ∙ fold-roll-Suffix Judge Judge Suffixed Generated Generating Linked argument_layer expression_layer suffix_layer generator_layer generators_layer link_layer (layers.Method n all)

pub generating_is : (g : Generators) → judge_generators g ≡ generating (map judge_generator (generators_in g)) (option_map (λ c. judge c.value) (condition_in g))
generating_is g = ap (λ z. generating z (judge_generators g).condition) (generated_is g) ∙ ap (generating (map judge_generator (generators_in g))) (condition_is g)

pub judge_aggregate : (o : Aggregate) (place : Place) (g : Box Generators Global) (b : Box Expression Global)
    → judge (trees.Aggregate o place g b) ≡ aggregate_form o place (generating (map judge_generator (generators_in g.value)) (option_map (λ c. judge c.value) (condition_in g.value))) (judge b.value)
judge_aggregate o place g b = judge_folded_aggregate o place g b ∙ ap (λ z. aggregate_form o place z (judge b.value)) (generating_is g.value)

pub operand_first : (ls : List Link) (c : Context) → first_operator_context (map judge_link ls) c ≡ first_operand_context ls c
operand_first [] c = refl
operand_first (l ∷ ls) c = ap (λ (z : Linked). operator_context z.operator c) (link_is l)
