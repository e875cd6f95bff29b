use Rattle.comet_meaning.specs.Posting.{post_named}
use Rattle.comet_meaning.proofs.GoingExpressions.{goes_post_taken, goes_weight}
use Rattle.comet_meaning.proofs.GoingOn.{goes_then, goes_charge}
use Rattle.comet_meaning.proofs.GoingParts.{goes_terms}
use Rattle.comet_meaning.proofs.GoingStatements.{goes_level}
use Rattle.comet_meaning.proofs.GoingSystems.{goes_take_user}
use Rattle.comet_meaning.proofs.GoingTerms.{goes_node}
use Rattle.run_steps.proofs.Exits.{after, call_exit}
use Rattle.run_values.specs.Views.{value_seen}
use Rattle.expression_forms.proofs.user_posting.add_named.Goals as goal

pub returns-in_err-value : goal.returns-in_err-value
unfolding post_named
returns-in_err-value g c = record { did = call_exit _ _ _ _ _ _ c.from_residual.ensures.1 c.in_err-value.ensures.did (λ v. goes_then (goes_terms _ (goes_level _ _) _) (λ xs. goes_then (goes_take_user _ _) (λ n. goes_then (goes_node _ _ _) (λ _. goes_then (goes_weight _ (goes_level _ _) _) (λ z. goes_then (goes_charge 1 _) (λ _. goes_post_taken _ n _ z v)))))) }

pub returns-in_err-cells : goal.returns-in_err-cells
unfolding post_named
returns-in_err-cells g c = record { did = after _ _ _ _ c.in_ok-value.ensures.did (call_exit _ _ _ _ _ _ c.from_residual-in_err-cells.ensures.1 c.in_err-cells.ensures.did (λ xs. goes_then (goes_take_user _ _) (λ n. goes_then (goes_node _ _ _) (λ _. goes_then (goes_weight _ (goes_level _ _) _) (λ z. goes_then (goes_charge 1 _) (λ _. goes_post_taken _ n _ z (value_seen c.in_ok-value.value))))))) }

pub returns : goal.returns
unfolding post_named
returns g c = record { did = after _ _ _ _ c.in_ok-value.ensures.did (after _ _ _ _ c.in_ok-cells.ensures.did c.take_and_post.ensures.did) }
