use Rattle.comet_meaning.proofs.GoingExpressions.{goes_asked_values, goes_method_value}
use Rattle.comet_meaning.specs.Methods.{called_form}
use Rattle.comet_meaning.proofs.GoingOn.{goes_then, goes_charge}
use Rattle.comet_meaning.proofs.GoingStatements.{goes_level}
use Rattle.run_steps.proofs.Exits.{after, call_exit}
use Rattle.expression_forms.proofs.methods.call_method.Goals as goal

pub returns-in_err-value : goal.returns-in_err-value
unfolding called_form
returns-in_err-value g c = record { did = call_exit _ _ _ _ _ _ c.from_residual.ensures.1 c.in_err-value.ensures.did (λ v. goes_then (goes_asked_values _ (goes_level _ _) _ _ _) (λ vs. goes_then (goes_charge 1 _) (λ _. goes_method_value _ _ _ v vs))) }

pub returns : goal.returns
unfolding called_form
returns g c = record { did = after _ _ _ _ c.in_ok-value.ensures.did (c.call_on.ensures.did _ (rw c.variables_asked.ensures at c.asked_values-values.ensures.did)) }
