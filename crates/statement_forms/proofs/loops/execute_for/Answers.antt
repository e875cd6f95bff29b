use Rattle.comet_meaning.proofs.GoingEvents.{goes_repeated}
use Rattle.comet_meaning.proofs.GoingStatements.{goes_level, goes_step, goes_turn}
use Rattle.std.proofs.lemmas.Result.{err_from_is_err_and}
use Rattle.comet_meaning.specs.Loops.{for_form}
use Rattle.run_steps.proofs.Steps.{referred}
use Rattle.run_steps.proofs.Stops.{ended_then}
use Rattle.statement_forms.proofs.loops.execute_for.Goals as goal

pub returns-in_err-start_counter : goal.returns-in_err-start_counter
unfolding for_form
returns-in_err-start_counter g c = let p = err_from_is_err_and c.from_residual.result c.from_residual.ensures.1 in record { did = rw (p.1, p.2) (ended_then _ _ _ _ (λ _. goes_repeated _ (goes_turn _ (goes_level _ _) _ _ (goes_step _ (goes_level _ _) _ _) _)) c.in_err-start_counter.ensures.did) }

pub returns : goal.returns
unfolding for_form
returns g c = record { did = rw (c.in_ok-start_counter.ensures.did) (rw (referred c.as_ref.result, c.as_ref.ensures.value, c.as_ref-2.ensures.value) at c.repeat.ensures.did) }
