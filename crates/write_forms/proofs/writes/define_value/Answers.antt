use Rattle.comet_meaning.proofs.GoingOn.{goes_then}
use Rattle.comet_meaning.proofs.GoingParts.{goes_one_term}
use Rattle.comet_meaning.proofs.GoingStatements.{goes_level, goes_defined_at}
use Rattle.comet_meaning.specs.Writes.{define_form}
use Rattle.std.proofs.lemmas.Result.{err_from_is_err_and}
use Rattle.run_steps.proofs.Stops.{ended_then}
use Rattle.run_steps.specs.OfRunState.Views.{state_seen}
use Rattle.write_forms.proofs.writes.define_value.Goals as goal

pub returns-in_err-target : goal.returns-in_err-target
unfolding define_form
returns-in_err-target g c = let p = err_from_is_err_and c.from_residual.result c.from_residual.ensures.1 in record { did = rw (p.1, p.2) (ended_then _ _ _ _ (λ x. goes_then (goes_one_term _ (goes_level _ _) _) (λ u. goes_defined_at _ x u)) c.in_err-target.ensures.did) }

pub returns : goal.returns
unfolding define_form
returns g c = record { did = rw c.in_ok-target.ensures.did (c.define_part.ensures.did (state_seen c.single_term-term.new.s (g.O.Outside.told c.single_term-term.new.out)) _ c.single_term-term.ensures.did) }
