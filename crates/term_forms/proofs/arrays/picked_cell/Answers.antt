use Rattle.std.proofs.Common.{rules, w64, FitsSigned}
use Rattle.std.specs.Prelude.{FitsSigned}
use Rattle.std.proofs.lemmas.Int.{to_z-of_z}
use Rattle.comet_meaning.specs.TermForms.{picked_cell}
use Rattle.comet_meaning.proofs.GoingOn.{goes_then, goes_give, goes_found_at}
use Rattle.comet_meaning.proofs.GoingParts.{goes_number}
use Rattle.comet_meaning.proofs.GoingStatements.{goes_level}
use Rattle.run_steps.proofs.Exits.{after, call_exit}
use Rattle.run_steps.specs.OfRunState.Views.{state_seen}
use Rattle.term_forms.proofs.arrays.picked_cell.Goals as goal

pub returns-in_err-cells : goal.returns-in_err-cells
unfolding picked_cell
returns-in_err-cells g c = record { did = call_exit _ _ _ _ _ _ c.from_residual.ensures.1 c.in_err-cells.ensures.did (λ a. goes_then (goes_number _ (goes_level _ _) _) (λ y. goes_then (goes_number _ (goes_level _ _) _) (λ z. goes_then (goes_found_at _ _) (λ k. goes_give)))) }

pub returns-in_err-row : goal.returns-in_err-row
unfolding picked_cell
returns-in_err-row g c = record { did = after _ _ _ _ c.in_ok-cells.ensures.did (call_exit _ _ _ _ _ _ c.from_residual-in_err-row.ensures.1 c.in_err-row.ensures.did (λ y. goes_then (goes_number _ (goes_level _ _) _) (λ z. goes_then (goes_found_at _ _) (λ k. goes_give)))) }

pub returns : goal.returns
unfolding picked_cell
returns g c = let f : FitsSigned w64 c.in_ok-row.row = search rules in record { did = after _ _ _ _ c.in_ok-cells.ensures.did (after _ _ _ _ c.in_ok-row.ensures.did (rw (to_z-of_z w64 c.in_ok-row.row f) at (c.pick_twice.ensures.did (state_seen c.number_of-column.new.s (g.O.Outside.told c.number_of-column.new.out)) _ c.number_of-column.ensures.did))) }
