use Rattle.comet_meaning.specs.Operators.{compare_form}
use Rattle.comet_meaning.proofs.GoingOn.{goes_then, goes_give}
use Rattle.comet_meaning.proofs.GoingParts.{goes_number}
use Rattle.comet_meaning.proofs.GoingStatements.{goes_level}
use Rattle.run_steps.proofs.Exits.{call_exit}
use Rattle.expression_forms.proofs.operators.evaluate_compare.Goals as goal

pub returns-in_err-left : goal.returns-in_err-left
unfolding compare_form
returns-in_err-left g c = record { did = call_exit _ _ _ _ _ _ c.from_residual.ensures.1 c.in_err-left.ensures.did (λ x. goes_then (goes_number _ (goes_level _ _) _) (λ y. goes_give)) }
