use Rattle.comet_meaning.specs.ConstraintForms.{bounded_form}
use Rattle.comet_meaning.proofs.GoingOn.{goes_then, goes_charge}
use Rattle.comet_meaning.proofs.GoingParts.{goes_terms}
use Rattle.comet_meaning.proofs.GoingStatements.{goes_level}
use Rattle.comet_meaning.proofs.GoingTerms.{goes_node}
use Rattle.run_steps.proofs.Exits.{after, call_exit}
use Rattle.constraint_forms.proofs.functions.bounded_term.Goals as goal

pub returns-in_err-bounds : goal.returns-in_err-bounds
unfolding bounded_form
returns-in_err-bounds g c = record { did = call_exit _ _ _ _ _ _ c.from_residual.ensures.1 c.in_err-bounds.ensures.did (λ _. goes_then (goes_terms _ (goes_level _ _) _) (λ _. goes_then (goes_charge _ _) (λ _. goes_then (goes_charge _ _) (λ _. goes_then (goes_charge _ _) (λ _. goes_node _ _ _))))) }

pub returns : goal.returns
unfolding bounded_form
returns g c = record { did = after _ _ _ _ c.in_ok-bounds.ensures.did (c.bounded_with.ensures.did _ _ c.term_cells-cells.ensures.did) }
