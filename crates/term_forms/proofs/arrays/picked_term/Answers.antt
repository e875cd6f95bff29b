use Rattle.comet_meaning.specs.TermForms.{picked_term}
use Rattle.comet_meaning.proofs.GoingOn.{goes_then, goes_give, goes_found_at}
use Rattle.comet_meaning.proofs.GoingParts.{goes_number}
use Rattle.comet_meaning.proofs.GoingStatements.{goes_level}
use Rattle.run_steps.proofs.Exits.{after, call_exit}
use Rattle.term_forms.proofs.arrays.picked_term.Goals as goal

pub returns-in_err-cells : goal.returns-in_err-cells
unfolding picked_term
returns-in_err-cells g c = record { did = call_exit _ _ _ _ _ _ c.from_residual.ensures.1 c.in_err-cells.ensures.did (λ a. goes_then (goes_number _ (goes_level _ _) _) (λ z. goes_then (goes_found_at _ _) (λ k. goes_give))) }

pub returns : goal.returns
unfolding picked_term
returns g c = record { did = after _ _ _ _ c.in_ok-cells.ensures.did (c.pick.ensures.did _ _ c.number_of-index.ensures.did) }
