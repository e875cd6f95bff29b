use Rattle.std.proofs.Common.{rules, w64, FitsSigned}
use Rattle.std.proofs.lemmas.Int.{to_z-of_z}
use Rattle.comet_meaning.specs.ConstraintForms.{sequence_form}
use Rattle.comet_meaning.proofs.GoingOn.{goes_then, goes_charge, goes_unless}
use Rattle.comet_meaning.proofs.GoingConstraints.{goes_kept_set}
use Rattle.comet_meaning.proofs.GoingParts.{goes_number}
use Rattle.comet_meaning.proofs.GoingStatements.{goes_level}
use Rattle.comet_meaning.proofs.GoingTerms.{goes_node}
use Rattle.run_steps.specs.OfRunState.Views.{state_seen}
use Rattle.run_steps.proofs.Exits.{after, call_exit}
use Rattle.constraint_forms.proofs.functions.sequence_term.Goals as goal

pub returns-in_err-cells : goal.returns-in_err-cells
unfolding sequence_form
returns-in_err-cells g c = record { did = call_exit _ _ _ _ _ _ c.from_residual.ensures.1 c.in_err-cells.ensures.did (λ _. goes_then (goes_kept_set _ (goes_level _ _) _) (λ _. goes_then (goes_number _ (goes_level _ _) _) (λ _. goes_then (goes_number _ (goes_level _ _) _) (λ _. goes_then (goes_charge _ _) (λ _. goes_then (goes_charge _ _) (λ _. goes_then (goes_unless _ _ _) (λ _. goes_node _ _ _))))))) }

pub returns-in_err-members : goal.returns-in_err-members
unfolding sequence_form
returns-in_err-members g c = record { did = after _ _ _ _ c.in_ok-cells.ensures.did (call_exit _ _ _ _ _ _ c.from_residual-in_err-members.ensures.1 c.in_err-members.ensures.did (λ _. goes_then (goes_number _ (goes_level _ _) _) (λ _. goes_then (goes_number _ (goes_level _ _) _) (λ _. goes_then (goes_charge _ _) (λ _. goes_then (goes_charge _ _) (λ _. goes_then (goes_unless _ _ _) (λ _. goes_node _ _ _))))))) }

pub returns-in_err-most : goal.returns-in_err-most
unfolding sequence_form
returns-in_err-most g c = record { did = after _ _ _ _ c.in_ok-cells.ensures.did (after _ _ _ _ c.in_ok-members.ensures.did (call_exit _ _ _ _ _ _ c.from_residual-in_err-most.ensures.1 c.in_err-most.ensures.did (λ _. goes_then (goes_number _ (goes_level _ _) _) (λ _. goes_then (goes_charge _ _) (λ _. goes_then (goes_charge _ _) (λ _. goes_then (goes_unless _ _ _) (λ _. goes_node _ _ _))))))) }

pub returns : goal.returns
unfolding sequence_form
returns g c = let f : FitsSigned w64 c.in_ok-most.most = search rules in record { did = after _ _ _ _ c.in_ok-cells.ensures.did (after _ _ _ _ c.in_ok-members.ensures.did (after _ _ _ _ c.in_ok-most.ensures.did (rw (to_z-of_z w64 c.in_ok-most.most f) at (c.sequence_with.ensures.did (g.O.Outside.told c.number_of-window.new.out) _ c.number_of-window.ensures.did)))) }
