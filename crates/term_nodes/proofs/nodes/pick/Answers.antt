use Rattle.std.proofs.Common.{rules, subst, ℤ, w64, FitsSigned}
use Rattle.std.proofs.lemmas.Int.{to_z-of_z}
use Rattle.comet_meaning.specs.Cells.{at_index, found_at}
use Rattle.comet_meaning.specs.Outcome.{give, then_do}
use Rattle.comet_meaning.specs.Terms.{term_at}
use Rattle.comet_meaning.specs.Values.{Extent}
use Rattle.comet_meaning.proofs.GoingOn.{goes_then, goes_give, goes_found_at}
use Rattle.run_steps.specs.OfRunState.InTerms.{term_cells_seen}
use Rattle.term_nodes.specs.Steps.{picked}
use Rattle.term_model.specs.declared.term.Term.{Term}
use Rattle.run_steps.specs.Does.{Does}
use Rattle.run_steps.proofs.Behind.{err_passes, ok_does}
use Rattle.term_nodes.proofs.nodes.pick.Goals as goal

pub returns-in-Err : goal.returns-in-Err
returns-in-Err c = record { did = λ s. err_passes (λ (z : ℤ). z) c.args.index c.in-Err.stop _ (picked c.args.at (term_cells_seen c.args.cells)) c.in-Err.is (λ z. goes_then (goes_found_at _ _) (λ k. goes_give)) }

pub returns-in-Ok : goal.returns-in-Ok
returns-in-Ok c = record { did = λ s. let f : FitsSigned w64 c.in-Ok.index = search rules in ok_does (λ (z : ℤ). z) (λ (t : Term). t) c.args.index c.in-Ok.index _ _ _ (picked c.args.at (term_cells_seen c.args.cells)) c.in-Ok.is (subst (λ (e : Extent). Does (λ (t : Term). t) c.cell_at.result s (then_do (found_at c.args.at (at_index e c.in-Ok.index) s) (λ k. give (term_at (term_cells_seen c.args.cells) k)))) c.extent.ensures (rw (c.at_index-cell.ensures, to_z-of_z w64 c.in-Ok.index f) at (c.cell_at.ensures.did s))) }
