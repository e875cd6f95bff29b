use Rattle.std.proofs.Common.{ℕ, ◌+◌, ◌*◌}
use Rattle.std.specs.Prelude.{max, map, []}
use Rattle.comet_syntax.specs.declared.tree.expressions.Expression.{size-Expression}
use Rattle.comet_syntax.specs.declared.tree.expressions.Link.{size-Link}
use Rattle.type_expressions.specs.Expressions.{judge_link, judge_argument, judge_suffix, judge_generator, link_form, argument_form, suffix_form, generator_form}
use Rattle.type_scopes.specs.State.{each}
use Rattle.checked_tree.specs.Shape.{seen}
use Rattle.comet_syntax.specs.declared.tree.expressions.Argument.{size-Argument}
use Rattle.type_expressions.specs.View.{front_of, values_of, generators_of}
use Rattle.type_scopes.proofs.Loops.{Runs}
use Rattle.type_expressions.proofs.expressions.+expression.Given as goal

-- An expression, then its form, then a list of its parts, then one of them.
abbrev pub decreases-check_expression : goal.decreases-check_expression
decreases-check_expression l = 6 * size-Expression l.expression.now

abbrev pub decreases-check_unary : goal.decreases-check_unary
decreases-check_unary l = 6 * size-Expression l.operand.now + 3

abbrev pub decreases-check_parentheses : goal.decreases-check_parentheses
decreases-check_parentheses l = 6 * size-Expression l.inner.now + 3

abbrev pub decreases-check_comparison : goal.decreases-check_comparison
decreases-check_comparison l = 6 * max (size-Expression l.left.now) (size-Expression l.right.now) + 3

abbrev pub decreases-check_range : goal.decreases-check_range
decreases-check_range l = 6 * max (size-Expression l.low.now) (size-Expression l.high.now) + 3

abbrev pub decreases-check_extreme : goal.decreases-check_extreme
decreases-check_extreme l = 6 * max (size-Expression l.left.now) (size-Expression l.right.now) + 3

abbrev pub decreases-check_conditional : goal.decreases-check_conditional
decreases-check_conditional l = 6 * max (size-Expression l.test.now) (max (size-Expression l.«then».now) (size-Expression l.otherwise.now)) + 3

abbrev pub decreases-check_chain : goal.decreases-check_chain
decreases-check_chain l = 6 * max (goal.size-check_chain l) (size-Expression l.first.now) + 3

abbrev pub decreases-check_links : goal.decreases-check_links
decreases-check_links l = 6 * goal.size-check_links l + 2

abbrev pub decreases-check_link : goal.decreases-check_link
decreases-check_link l = 6 * size-Link l.link.now + 1

abbrev pub invariant-check_links-loop-link : goal.invariant-check_links-loop-link
invariant-check_links-loop-link l = Runs (link_form l.scope) judge_link l.links l.link-index (front_of l.front) l.checker
    (each (link_form l.scope) (map judge_link l.links) (record { note = l.fn.note; links = [] }) l.fn.checker)

abbrev pub decreases-check_call : goal.decreases-check_call
decreases-check_call l = 6 * goal.size-check_call l + 4

abbrev pub decreases-check_list : goal.decreases-check_list
decreases-check_list l = 6 * goal.size-check_list l + 4

abbrev pub decreases-check_set : goal.decreases-check_set
decreases-check_set l = 6 * goal.size-check_set l + 4

abbrev pub decreases-check_method : goal.decreases-check_method
decreases-check_method l = 6 * goal.size-check_method l + 4

abbrev pub decreases-check_arguments : goal.decreases-check_arguments
decreases-check_arguments l = 6 * goal.size-check_arguments l + 3

abbrev pub decreases-check_suffixes : goal.decreases-check_suffixes
decreases-check_suffixes l = 6 * goal.size-check_suffixes l + 2

abbrev pub decreases-check_generators : goal.decreases-check_generators
decreases-check_generators l = 6 * goal.size-check_generators l + 2

abbrev pub decreases-check_argument : goal.decreases-check_argument
decreases-check_argument l = 6 * goal.size-check_argument l + 1

abbrev pub decreases-check_next_argument : goal.decreases-check_next_argument
decreases-check_next_argument l = 6 * size-Argument l.argument.now + 2

abbrev pub decreases-check_suffix : goal.decreases-check_suffix
decreases-check_suffix l = 6 * goal.size-check_suffix l + 1

abbrev pub decreases-check_generator : goal.decreases-check_generator
decreases-check_generator l = 6 * goal.size-check_generator l + 1

abbrev pub decreases-check_condition : goal.decreases-check_condition
decreases-check_condition l = 6 * goal.size-check_condition l + 1

abbrev pub decreases-check_index : goal.decreases-check_index
decreases-check_index l = 6 * size-Expression l.index.now + 3

abbrev pub decreases-check_cell : goal.decreases-check_cell
decreases-check_cell l = 6 * max (size-Expression l.row.now) (size-Expression l.column.now) + 3

abbrev pub decreases-check_postfix : goal.decreases-check_postfix
decreases-check_postfix l = 6 * max (goal.size-check_postfix l) (size-Expression l.primary.now) + 3

abbrev pub decreases-check_aggregate : goal.decreases-check_aggregate
decreases-check_aggregate l = 6 * max (goal.size-check_aggregate l) (size-Expression l.body.now) + 3

abbrev pub decreases-aggregated : goal.decreases-aggregated
decreases-aggregated l = 6 * max (goal.size-aggregated l) (size-Expression l.body.now) + 2

abbrev pub invariant-check_arguments-loop-argument : goal.invariant-check_arguments-loop-argument
invariant-check_arguments-loop-argument l = Runs (argument_form l.first l.scope) judge_argument l.arguments l.argument-index (values_of l.values) l.checker
    (each (argument_form l.first l.scope) (map judge_argument l.arguments) [] l.fn.checker)

abbrev pub invariant-check_suffixes-loop-suffix : goal.invariant-check_suffixes-loop-suffix
invariant-check_suffixes-loop-suffix l = Runs (suffix_form l.scope) judge_suffix l.suffixes l.suffix-index (seen l.front) l.checker
    (each (suffix_form l.scope) (map judge_suffix l.suffixes) (seen l.fn.primary) l.fn.checker)

abbrev pub invariant-check_generators-loop-generator : goal.invariant-check_generators-loop-generator
invariant-check_generators-loop-generator l = Runs (generator_form l.scope) judge_generator l.generators l.generator-index (generators_of l.checked) l.checker
    (each (generator_form l.scope) (map judge_generator l.generators) [] l.fn.checker)

abbrev pub decreases-generated : goal.decreases-generated
decreases-generated l = 6 * goal.size-generated l + 1

abbrev pub decreases-check_some : goal.decreases-check_some
decreases-check_some l = 6 * goal.size-check_some l + 1
