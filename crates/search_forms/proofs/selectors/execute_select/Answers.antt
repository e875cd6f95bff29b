-- The choice, and then the body.
use Rattle.comet_meaning.specs.Selection.{select_form}
use Rattle.comet_meaning.proofs.GoingStatements.{goes_level}
use Rattle.run_steps.proofs.Exits.{after, call_exit}
use Rattle.run_steps.proofs.Steps.{referred}
use Rattle.search_forms.proofs.ChoiceLaws.{goes_body}
use Rattle.search_forms.proofs.selectors.execute_select.Goals as goal

pub returns-in_err-chosen : goal.returns-in_err-chosen
unfolding select_form
returns-in_err-chosen g c = record { did = call_exit _ _ _ _ _ _ c.from_residual.ensures.1 (rw (referred c.as_ref.result, c.as_ref.ensures.value) at c.in_err-chosen.ensures.did) (λ t. goes_body _ (goes_level _ _) _ _ t) }

pub returns : goal.returns
unfolding select_form
returns g c = record { did = after _ _ _ _ (rw (referred c.as_ref.result, c.as_ref.ensures.value) at c.in_ok-chosen.ensures.did) c.execute_chosen.ensures.did }
