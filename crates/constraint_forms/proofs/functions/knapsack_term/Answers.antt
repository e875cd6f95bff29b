use Rattle.comet_meaning.specs.ConstraintForms.{knapsack_form}
use Rattle.comet_meaning.proofs.GoingOn.{goes_then, goes_charge, goes_unless}
use Rattle.comet_meaning.proofs.GoingParts.{goes_terms, goes_number}
use Rattle.comet_meaning.proofs.GoingStatements.{goes_level}
use Rattle.comet_meaning.proofs.GoingTerms.{goes_node}
use Rattle.run_steps.proofs.Exits.{after, call_exit}
use Rattle.constraint_forms.proofs.functions.knapsack_term.Goals as goal

pub returns-in_err-weights : goal.returns-in_err-weights
unfolding knapsack_form
returns-in_err-weights g c = record { did = call_exit _ _ _ _ _ _ c.from_residual.ensures.1 c.in_err-weights.ensures.did (λ _. goes_then (goes_terms _ (goes_level _ _) _) (λ _. goes_then (goes_number _ (goes_level _ _) _) (λ _. goes_then (goes_charge _ _) (λ _. goes_then (goes_charge _ _) (λ _. goes_then (goes_charge _ _) (λ _. goes_then (goes_unless _ _ _) (λ _. goes_node _ _ _))))))) }

pub returns-in_err-cells : goal.returns-in_err-cells
unfolding knapsack_form
returns-in_err-cells g c = record { did = after _ _ _ _ c.in_ok-weights.ensures.did (call_exit _ _ _ _ _ _ c.from_residual-in_err-cells.ensures.1 c.in_err-cells.ensures.did (λ _. goes_then (goes_number _ (goes_level _ _) _) (λ _. goes_then (goes_charge _ _) (λ _. goes_then (goes_charge _ _) (λ _. goes_then (goes_charge _ _) (λ _. goes_then (goes_unless _ _ _) (λ _. goes_node _ _ _))))))) }

pub returns : goal.returns
unfolding knapsack_form
returns g c = record { did = after _ _ _ _ c.in_ok-weights.ensures.did (after _ _ _ _ c.in_ok-cells.ensures.did (c.knapsack_with.ensures.did _ _ c.number_of-capacity.ensures.did)) }
