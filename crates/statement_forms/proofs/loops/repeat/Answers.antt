use Rattle.std.proofs.Common.{refl}
use Rattle.comet_meaning.proofs.GoingStatements.{goes_level, goes_step, goes_turn}
use Rattle.std.proofs.lemmas.Result.{err_from_is_err_and}
use Rattle.comet_meaning.proofs.Turns.{takes_turn, turn_takes}
use Rattle.run_steps.proofs.Steps.{turn_ends, turn_goes_on, turn_spends, turn_stops}
use Rattle.statement_forms.proofs.loops.repeat.Goals as goal

pub turns-init : goal.turns-init
turns-init g c = record { left = refl }

pub returns-in_err-end : goal.returns-in_err-end
returns-in_err-end g c = let p = err_from_is_err_and c.from_residual.result c.from_residual.ensures.1 in record { did = rw (p.1, p.2) (turn_stops c.turns.invariant (turn_takes (takes_turn _ (goes_level _ _) _ _ (goes_step _ (goes_level _ _) _ _) _)) (goes_turn _ (goes_level _ _) _ _ (goes_step _ (goes_level _ _) _ _) _) _ _ c.in_err-end.ensures.did) }

pub returns-in-Some : goal.returns-in-Some
returns-in-Some g c = record { did = turn_ends c.turns.invariant (turn_takes (takes_turn _ (goes_level _ _) _ _ (goes_step _ (goes_level _ _) _ _) _)) _ _ (rw c.in-Some.is at c.in_ok-end.ensures.did) }

pub turns-preserved : goal.turns-preserved
turns-preserved g c = turn_goes_on c.turns.invariant (turn_takes (takes_turn _ (goes_level _ _) _ _ (goes_step _ (goes_level _ _) _ _) _)) _ (rw c.in-None.is at c.in_ok-end.ensures.did)

pub turns-smaller : goal.turns-smaller
turns-smaller g c = turn_spends c.turns.invariant (turn_takes (takes_turn _ (goes_level _ _) _ _ (goes_step _ (goes_level _ _) _ _) _)) _ (rw c.in-None.is at c.in_ok-end.ensures.did)
