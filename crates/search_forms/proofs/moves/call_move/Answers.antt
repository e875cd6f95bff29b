-- The move, and then what it is.
use Rattle.comet_meaning.specs.Moves.{choose_form}
use Rattle.comet_meaning.proofs.GoingStatements.{goes_level}
use Rattle.run_steps.proofs.Exits.{after, call_exit}
use Rattle.search_forms.proofs.LaterLaws.{goes_called}
use Rattle.search_forms.proofs.moves.call_move.Goals as goal

pub returns-in_err-chosen : goal.returns-in_err-chosen
unfolding choose_form
returns-in_err-chosen g c = record { did = call_exit _ _ _ _ _ _ c.from_residual.ensures.1 c.in_err-chosen.ensures.did (λ v. goes_called _ (goes_level _ _) v) }

pub returns : goal.returns
unfolding choose_form
returns g c = record { did = after _ _ _ _ c.in_ok-chosen.ensures.did c.run_move.ensures.did }
