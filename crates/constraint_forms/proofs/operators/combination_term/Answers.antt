use Rattle.comet_meaning.specs.ConstraintForms.{combination_form}
use Rattle.comet_meaning.proofs.GoingConstraints.{goes_combined}
use Rattle.comet_meaning.proofs.GoingStatements.{goes_level}
use Rattle.run_steps.proofs.Exits.{after, call_exit}
use Rattle.constraint_forms.proofs.operators.combination_term.Goals as goal

pub returns-in_err-term : goal.returns-in_err-term
unfolding combination_form
returns-in_err-term g c = record { did = call_exit _ _ _ _ _ _ c.from_residual.ensures.1 c.in_err-term.ensures.did (λ t. goes_combined _ (goes_level _ _) _ t) }

pub returns : goal.returns
unfolding combination_form
returns g c = record { did = after _ _ _ _ c.in_ok-term.ensures.did c.combined_term.ensures.did }
