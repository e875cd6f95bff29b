use Rattle.std.proofs.Common.{sym, subst, map}
use Rattle.comet_meaning.proofs.GoingTerms.{goes_aggregate_term}
use Rattle.comet_meaning.proofs.GoingStatements.{goes_level}
use Rattle.run_steps.specs.OfRunState.Views.{state_seen}
use Rattle.run_steps.specs.Does.{Does}
use Rattle.run_steps.proofs.AggregateLaws.{memory_ends}
use Rattle.run_steps.proofs.Exits.{exit}
use Rattle.run_values.specs.Views.{value_seen}
use Rattle.term_forms.proofs.BodyLaws.{aggregate_ends, aggregate_went}
use Rattle.term_forms.proofs.aggregates.aggregate_term.Goals as goal

pub returns-in_err-frame : goal.returns-in_err-frame
returns-in_err-frame g c = record { did = exit _ _ _ _ _ c.from_residual.ensures.1 (memory_ends _ _ _ c.in_err-frame.ensures.memory ((goes_aggregate_term _ (goes_level _ _) _ _ _ _ _).from _).printed) }

pub returns-in_err-bodies : goal.returns-in_err-bodies
returns-in_err-bodies g c = record { did = exit _ _ _ _ _ c.from_residual-in_err-bodies.ensures.1 (aggregate_ends _ _ _ _ _ _ _ _ _ c.in_err-bodies.ensures.did) }

pub returns : goal.returns
returns g c = record { did = subst (Does _ _ _) (sym (aggregate_went _ _ _ _ _ _ _ c.in_ok-bodies.ensures.did _ c.in_ok-frame.ensures.same)) (c.aggregated.ensures.did (record (state_seen c.bodies_of.new.s (g.O.Outside.told c.bodies_of.new.out)) { frame = map value_seen c.in_ok-frame.frame.items })) }
