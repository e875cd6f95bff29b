use Rattle.comet_meaning.proofs.GoingOn.{goes_charge, goes_then}
use Rattle.comet_meaning.proofs.GoingTerms.{goes_node}
use Rattle.run_steps.specs.OfRunState.InTerms.{term_cells_seen}
use Rattle.term_model.specs.declared.term.Term.{Term}
use Rattle.constraint_forms.specs.Steps.{all_different_node}
use Rattle.run_steps.proofs.Behind.{err_passes, ok_does}
use Rattle.constraint_forms.proofs.function_nodes.all_different_with.Goals as goal

pub returns-in-Err : goal.returns-in-Err
returns-in-Err c = record { did = λ printed. err_passes term_cells_seen c.args.cells c.in-Err.stop _ (all_different_node c.args.at c.args.place) c.in-Err.is (λ x. goes_then (goes_charge _ _) (λ _. goes_then (goes_charge _ _) (λ _. goes_node _ _ _))) }

pub returns-in-Ok : goal.returns-in-Ok
returns-in-Ok c = record { did = λ printed. ok_does term_cells_seen (λ (t : Term). t) c.args.cells c.in-Ok.cells _ _ _ (all_different_node c.args.at c.args.place) c.in-Ok.is (c.all_different_of.ensures.did printed) }
