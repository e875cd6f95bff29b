use Rattle.comet_meaning.specs.Operators.{chain_form}
use Rattle.comet_meaning.proofs.GoingParts.{goes_links}
use Rattle.comet_meaning.proofs.GoingStatements.{goes_level}
use Rattle.run_steps.proofs.Exits.{call_exit}
use Rattle.expression_forms.proofs.operators.evaluate_chain.Goals as goal

pub returns-in_err-value : goal.returns-in_err-value
unfolding chain_form
returns-in_err-value g c = record { did = call_exit _ _ _ _ _ _ c.from_residual.ensures.1 c.in_err-value.ensures.did (λ v. goes_links _ (goes_level _ _) _ v) }
