use Rattle.comet_meaning.specs.Posting.{post_part}
use Rattle.comet_meaning.proofs.GoingExpressions.{goes_weight}
use Rattle.comet_meaning.proofs.GoingOn.{goes_then, goes_charge}
use Rattle.comet_meaning.proofs.GoingParts.{goes_one_term}
use Rattle.comet_meaning.proofs.GoingStatements.{goes_level}
use Rattle.comet_meaning.proofs.GoingSystems.{goes_post}
use Rattle.run_steps.proofs.Exits.{after, call_exit}
use Rattle.run_values.specs.Views.{value_seen}
use Rattle.expression_forms.proofs.posting.add_part.Goals as goal

pub returns-in_err-value : goal.returns-in_err-value
unfolding post_part
returns-in_err-value g c = record { did = call_exit _ _ _ _ _ _ c.from_residual.ensures.1 c.in_err-value.ensures.did (λ v. goes_then (goes_one_term _ (goes_level _ _) _) (λ t. goes_then (goes_weight _ (goes_level _ _) _) (λ z. goes_then (goes_charge 1 _) (λ _. goes_post _ t z v)))) }

pub returns-in_err-term : goal.returns-in_err-term
unfolding post_part
returns-in_err-term g c = record { did = after _ _ _ _ c.in_ok-value.ensures.did (call_exit _ _ _ _ _ _ c.from_residual-in_err-term.ensures.1 c.in_err-term.ensures.did (λ t. goes_then (goes_weight _ (goes_level _ _) _) (λ z. goes_then (goes_charge 1 _) (λ _. goes_post _ t z (value_seen c.in_ok-value.value))))) }

pub returns : goal.returns
unfolding post_part
returns g c = record { did = after _ _ _ _ c.in_ok-value.ensures.did (after _ _ _ _ c.in_ok-term.ensures.did (c.post_with.ensures.did _ c.weight_of-weight.ensures.did)) }
