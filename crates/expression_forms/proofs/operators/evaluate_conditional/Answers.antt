use Rattle.comet_meaning.specs.Operators.{conditional_form}
use Rattle.comet_meaning.proofs.GoingOn.{goes_then, goes_give, goes_if}
use Rattle.comet_meaning.proofs.GoingParts.{goes_value}
use Rattle.comet_meaning.proofs.GoingStatements.{goes_level}
use Rattle.run_steps.proofs.Exits.{call_exit}
use Rattle.expression_forms.proofs.operators.evaluate_conditional.Goals as goal

pub returns-in_err-truth_of : goal.returns-in_err-truth_of
unfolding conditional_form
returns-in_err-truth_of g c = record { did = call_exit _ _ _ _ _ _ c.from_residual.ensures.1 c.in_err-truth_of.ensures.did (λ t. goes_then (goes_if t (goes_value _ (goes_level _ _) _) (goes_value _ (goes_level _ _) _)) (λ v. goes_give)) }
