use Rattle.std.proofs.Common.{rules, w64, FitsSigned}
use Rattle.std.specs.Prelude.{FitsSigned}
use Rattle.std.proofs.lemmas.Int.{to_z-of_z}
use Rattle.comet_meaning.proofs.GoingOn.{goes_then}
use Rattle.comet_meaning.proofs.GoingParts.{goes_number}
use Rattle.comet_meaning.proofs.GoingStatements.{goes_level}
use Rattle.run_steps.proofs.Exits.{after, call_exit}
use Rattle.run_steps.proofs.Goes.{goes_cell_written}
use Rattle.comet_meaning.specs.Writes.{cell_target}
use Rattle.write_forms.proofs.targets.target_of_cell.Goals as goal

pub returns-in_err-grid : goal.returns-in_err-grid
unfolding cell_target
returns-in_err-grid g c = record { did = call_exit _ _ _ _ _ _ c.from_residual.ensures.1 c.in_err-grid.ensures.did (λ v. goes_then (goes_number _ (goes_level _ _) _) (λ y. goes_then (goes_number _ (goes_level _ _) _) (λ z. goes_cell_written _ v y z))) }

pub returns-in_err-row : goal.returns-in_err-row
unfolding cell_target
returns-in_err-row g c = record { did = after _ _ _ _ c.in_ok-grid.ensures.did (call_exit _ _ _ _ _ _ c.from_residual-in_err-row.ensures.1 c.in_err-row.ensures.did (λ y. goes_then (goes_number _ (goes_level _ _) _) (λ z. goes_cell_written _ _ y z))) }

pub returns : goal.returns
unfolding cell_target
returns g c = let f : FitsSigned w64 c.in_ok-row.row = search rules in record { did = after _ _ _ _ c.in_ok-grid.ensures.did (after _ _ _ _ c.in_ok-row.ensures.did (rw (to_z-of_z w64 c.in_ok-row.row f) at (c.target_in_grid.ensures.did (g.O.Outside.told c.number_of-column.new.out) _ c.number_of-column.ensures.did))) }
