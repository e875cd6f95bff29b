use Rattle.std.proofs.Common.{ap, map, List, refl}
use Rattle.checked_tree.specs.declared.expressions.Link.{Link}
use Rattle.checked_tree.specs.Shape.{seen, shape_of_link, shape_of_generator}
use Rattle.checked_tree.specs.declared.expressions.Typed.{Typed}
use Rattle.checked_tree.specs.declared.expressions.Generator.{Generator}
use Rattle.type_expressions.specs.Expressions.{judge_link, judge_argument, judge_suffix, judge_generator, link_form, argument_form, suffix_form, generator_form}
use Rattle.type_expressions.specs.View.{front_with}
use Rattle.type_expressions.specs.Expressions.{condition_form}
use Rattle.type_expressions.proofs.Judged.{generated_is, condition_is}
use Rattle.type_scopes.proofs.Loops.{runs_start, runs_step, runs_stop, runs_end, passes}
use Rattle.type_expressions.proofs.expressions.+expression.Goals as goal

pub check_links-loop-link-init : goal.check_links-loop-link-init
check_links-loop-link-init t c = runs_start (link_form c.args.scope) judge_link c.args.links.now _ _ _
    (ap (λ (ls : List Link). front_with c.args.note (map shape_of_link ls)) c.new.ensures.items)

pub check_links-returns-in_err-front : goal.check_links-returns-in_err-front
check_links-returns-in_err-front t c = passes _ _ c.in_err-front.field-0.0 _ _ c.from_residual.ensures.1
    (runs_stop (link_form c.args.scope) judge_link c.args.links.now _ _ _ _ _ _ c.loop-link.invariant c.loop-link-test.true c.link-item.is c.in_err-front.ensures)

pub check_links-loop-link-preserved : goal.check_links-loop-link-preserved
check_links-loop-link-preserved t c =
    runs_step (link_form c.args.scope) judge_link c.args.links.now _ _ _ _ _ _ _ c.loop-link.invariant c.loop-link-test.true c.link-item.is c.in_ok-front.ensures

pub check_links-returns : goal.check_links-returns
check_links-returns t c = runs_end (link_form c.args.scope) judge_link c.args.links.now _ _ _ _ c.loop-link.invariant c.loop-link-test.false

pub check_arguments-loop-argument-init : goal.check_arguments-loop-argument-init
check_arguments-loop-argument-init t c = runs_start (argument_form c.args.first c.args.scope) judge_argument c.args.arguments.now _ _ _ (ap (λ (vs : List Typed). map seen vs) c.new-values.ensures.items)

pub check_arguments-returns-in_err-values : goal.check_arguments-returns-in_err-values
check_arguments-returns-in_err-values t c = passes _ _ c.in_err-values.field-0.0 _ _ c.from_residual.ensures.1
    (runs_stop (argument_form c.args.first c.args.scope) judge_argument c.args.arguments.now _ _ _ _ _ _ c.loop-argument.invariant c.loop-argument-test.true c.argument-item.is c.in_err-values.ensures)

pub check_arguments-loop-argument-preserved : goal.check_arguments-loop-argument-preserved
check_arguments-loop-argument-preserved t c =
    runs_step (argument_form c.args.first c.args.scope) judge_argument c.args.arguments.now _ _ _ _ _ _ _ c.loop-argument.invariant c.loop-argument-test.true c.argument-item.is c.in_ok-values.ensures

pub check_arguments-returns : goal.check_arguments-returns
check_arguments-returns t c = runs_end (argument_form c.args.first c.args.scope) judge_argument c.args.arguments.now _ _ _ _ c.loop-argument.invariant c.loop-argument-test.false

pub check_suffixes-loop-suffix-init : goal.check_suffixes-loop-suffix-init
check_suffixes-loop-suffix-init t c = runs_start (suffix_form c.args.scope) judge_suffix c.args.suffixes.now _ _ _ refl

pub check_suffixes-returns-in_err-front : goal.check_suffixes-returns-in_err-front
check_suffixes-returns-in_err-front t c = passes _ _ c.in_err-front.field-0.0 _ _ c.from_residual.ensures.1
    (runs_stop (suffix_form c.args.scope) judge_suffix c.args.suffixes.now _ _ _ _ _ _ c.loop-suffix.invariant c.loop-suffix-test.true c.suffix-item.is c.in_err-front.ensures)

pub check_suffixes-loop-suffix-preserved : goal.check_suffixes-loop-suffix-preserved
check_suffixes-loop-suffix-preserved t c =
    runs_step (suffix_form c.args.scope) judge_suffix c.args.suffixes.now _ _ _ _ _ _ _ c.loop-suffix.invariant c.loop-suffix-test.true c.suffix-item.is c.in_ok-front.ensures

pub check_suffixes-returns : goal.check_suffixes-returns
check_suffixes-returns t c = runs_end (suffix_form c.args.scope) judge_suffix c.args.suffixes.now _ _ _ _ c.loop-suffix.invariant c.loop-suffix-test.false

pub check_generators-loop-generator-init : goal.check_generators-loop-generator-init
check_generators-loop-generator-init t c = runs_start (generator_form c.args.scope) judge_generator c.args.generators.now _ _ _ (ap (λ (gs : List Generator). map shape_of_generator gs) c.new-checked.ensures.items)

pub check_generators-returns-in_err-checked : goal.check_generators-returns-in_err-checked
check_generators-returns-in_err-checked t c = passes _ _ c.in_err-checked.field-0.0 _ _ c.from_residual.ensures.1
    (runs_stop (generator_form c.args.scope) judge_generator c.args.generators.now _ _ _ _ _ _ c.loop-generator.invariant c.loop-generator-test.true c.generator-item.is c.in_err-checked.ensures)

pub check_generators-loop-generator-preserved : goal.check_generators-loop-generator-preserved
check_generators-loop-generator-preserved t c =
    runs_step (generator_form c.args.scope) judge_generator c.args.generators.now _ _ _ _ _ _ _ c.loop-generator.invariant c.loop-generator-test.true c.generator-item.is c.in_ok-checked.ensures

pub check_generators-returns : goal.check_generators-returns
check_generators-returns t c = runs_end (generator_form c.args.scope) judge_generator c.args.generators.now _ _ _ _ c.loop-generator.invariant c.loop-generator-test.false

pub generated-returns : goal.generated-returns
generated-returns t c = rw (generated_is c.args.generators.now, ← c.deref.ensures.value) c.check_generators.ensures

pub check_condition-returns-in-None : goal.check_condition-returns-in-None
unfolding condition_form
check_condition-returns-in-None t c = rw (condition_is c.args.generators.now, c.in-None.is) refl

pub check_condition-returns-in-Some : goal.check_condition-returns-in-Some
unfolding condition_form
check_condition-returns-in-Some t c = rw (condition_is c.args.generators.now, c.in-Some.is, ← c.deref.ensures) c.check_some.ensures
