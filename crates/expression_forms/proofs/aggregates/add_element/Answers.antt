use Rattle.std.proofs.Common.{sym, subst, map, w64}
use Rattle.std.proofs.lemmas.Int.{to_z-of_z}
use Rattle.run_steps.proofs.AggregateLaws.{element_adds}
use Rattle.comet_meaning.specs.Aggregates.{element_form}
use Rattle.comet_meaning.proofs.GoingExpressions.{goes_with_element}
use Rattle.run_values.specs.Views.{element_seen, value_seen}
use Rattle.run_steps.specs.Does.{Does}
use Rattle.comet_meaning.proofs.GoingOn.{goes_then, goes_give, goes_if}
use Rattle.comet_meaning.proofs.GoingParts.{goes_value}
use Rattle.comet_meaning.proofs.GoingStatements.{goes_level}
use Rattle.run_steps.proofs.Exits.{act_does, call_exit}
use Rattle.run_steps.specs.OfRunState.Views.{state_seen}
use Rattle.expression_forms.proofs.aggregates.add_element.Goals as goal

pub returns-in_err-passes : goal.returns-in_err-passes
unfolding element_form
returns-in_err-passes g c = record { did = call_exit _ _ _ _ _ _ c.from_residual.ensures.1 c.in_err-passes.ensures.did (λ t. goes_if t (goes_then (goes_value _ (goes_level _ _) _) (λ v. goes_with_element c.args.at c.args.aggregate c.args.key (map element_seen c.args.elements.now.items) v)) goes_give) }

pub returns : goal.returns
returns g c = record { did = subst (Does _ _ _) (sym (element_adds _ _ _ _ _ _ _ _ c.in_ok-passes.ensures.did c.if-not-branch.false c.in_ok-value.ensures.did)) (act_does _ _ _ _ (rw (to_z-of_z w64 c.args.key c.ranges.key) at (c.push_element.ensures.did (state_seen c.value_of.new.s (g.O.Outside.told c.value_of.new.out)))) ((goes_with_element c.args.at c.args.aggregate c.args.key (map element_seen c.args.elements.now.items) (value_seen c.in_ok-value.value)).from _).printed) }
