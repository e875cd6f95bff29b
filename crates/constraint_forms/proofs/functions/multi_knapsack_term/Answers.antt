use Rattle.comet_meaning.specs.ConstraintForms.{multi_knapsack_form}
use Rattle.comet_meaning.proofs.GoingOn.{goes_then, goes_charge, goes_unless}
use Rattle.comet_meaning.proofs.GoingConstraints.{goes_kept_cells}
use Rattle.comet_meaning.proofs.GoingStatements.{goes_level}
use Rattle.comet_meaning.proofs.GoingTerms.{goes_node}
use Rattle.run_steps.proofs.Exits.{after, call_exit}
use Rattle.constraint_forms.proofs.functions.multi_knapsack_term.Goals as goal

pub returns-in_err-cells : goal.returns-in_err-cells
unfolding multi_knapsack_form
returns-in_err-cells g c = record { did = call_exit _ _ _ _ _ _ c.from_residual.ensures.1 c.in_err-cells.ensures.did (λ _. goes_then (goes_kept_cells _ (goes_level _ _) _) (λ _. goes_then (goes_kept_cells _ (goes_level _ _) _) (λ _. goes_then (goes_charge _ _) (λ _. goes_then (goes_charge _ _) (λ _. goes_then (goes_charge _ _) (λ _. goes_then (goes_charge _ _) (λ _. goes_then (goes_unless _ _ _) (λ _. goes_node _ _ _)))))))) }

pub returns-in_err-sizes : goal.returns-in_err-sizes
unfolding multi_knapsack_form
returns-in_err-sizes g c = record { did = after _ _ _ _ c.in_ok-cells.ensures.did (call_exit _ _ _ _ _ _ c.from_residual-in_err-sizes.ensures.1 c.in_err-sizes.ensures.did (λ _. goes_then (goes_kept_cells _ (goes_level _ _) _) (λ _. goes_then (goes_charge _ _) (λ _. goes_then (goes_charge _ _) (λ _. goes_then (goes_charge _ _) (λ _. goes_then (goes_charge _ _) (λ _. goes_then (goes_unless _ _ _) (λ _. goes_node _ _ _)))))))) }

pub returns : goal.returns
unfolding multi_knapsack_form
returns g c = record { did = after _ _ _ _ c.in_ok-cells.ensures.did (after _ _ _ _ c.in_ok-sizes.ensures.did (c.multi_knapsack_with.ensures.did _ _ c.kept_cells-capacities.ensures.did)) }
