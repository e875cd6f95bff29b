use Rattle.comet_meaning.specs.TermForms.{count_term}
use Rattle.comet_meaning.proofs.GoingOn.{goes_then, goes_charge}
use Rattle.comet_meaning.proofs.GoingParts.{goes_one_term}
use Rattle.comet_meaning.proofs.GoingStatements.{goes_level}
use Rattle.comet_meaning.proofs.GoingTerms.{goes_node}
use Rattle.run_steps.proofs.Exits.{after, call_exit}
use Rattle.term_forms.proofs.calls.count_term.Goals as goal

pub returns-in_err-cells : goal.returns-in_err-cells
unfolding count_term
returns-in_err-cells g c = record { did = call_exit _ _ _ _ _ _ c.from_residual.ensures.1 c.in_err-cells.ensures.did (λ a. goes_then (goes_one_term _ (goes_level _ _) _) (λ t. goes_then (goes_charge _ _) (λ _. goes_then (goes_charge _ _) (λ _. goes_node _ _ _)))) }

pub returns : goal.returns
unfolding count_term
returns g c = record { did = after _ _ _ _ c.in_ok-cells.ensures.did (c.count_with.ensures.did _ _ c.single_term-number.ensures.did) }
