use Rattle.std.proofs.Common.{sym, subst, map}
use Rattle.run_steps.proofs.AggregateLaws.{aggregate_ends, aggregate_went, memory_ends}
use Rattle.comet_meaning.proofs.GoingExpressions.{goes_aggregate_value, goes_aggregate}
use Rattle.run_values.specs.Views.{element_seen, value_seen}
use Rattle.run_steps.specs.Does.{Does}
use Rattle.comet_meaning.proofs.GoingStatements.{goes_level}
use Rattle.run_steps.proofs.Exits.{act_does, exit}
use Rattle.run_steps.specs.OfRunState.Views.{state_seen}
use Rattle.expression_forms.proofs.aggregates.evaluate_aggregate.Goals as goal

pub returns-in_err-frame : goal.returns-in_err-frame
returns-in_err-frame g c = record { did = exit _ _ _ _ _ c.from_residual.ensures.1 (memory_ends _ _ _ c.in_err-frame.ensures.memory ((goes_aggregate _ (goes_level _ _) _ _ _ _ _).from _).printed) }

pub returns-in_err-elements : goal.returns-in_err-elements
returns-in_err-elements g c = record { did = exit _ _ _ _ _ c.from_residual-in_err-elements.ensures.1 (aggregate_ends _ _ _ _ _ _ _ _ _ c.in_err-elements.ensures.did) }

pub returns : goal.returns
returns g c = record { did = subst (Does _ _ _) (sym (aggregate_went _ _ _ _ _ _ _ c.in_ok-elements.ensures.did _ c.in_ok-frame.ensures.same)) (act_does _ _ _ _ (rw c.deref.ensures.value at (c.aggregate_value.ensures.did (record (state_seen c.elements_of.new.s (g.O.Outside.told c.elements_of.new.out)) { frame = map value_seen c.in_ok-frame.frame.items }))) ((goes_aggregate_value c.args.at c.args.aggregate (map element_seen c.in_ok-elements.elements.items)).from _).printed) }
