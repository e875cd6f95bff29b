use Rattle.comet_meaning.proofs.GoingOn.{goes_then, goes_charge}
use Rattle.comet_meaning.proofs.GoingTerms.{goes_node}
use Rattle.run_steps.specs.OfRunState.InTerms.{term_cells_seen}
use Rattle.term_nodes.specs.Steps.{grid_node}
use Rattle.term_model.specs.declared.term.Term.{Term}
use Rattle.run_steps.proofs.Behind.{err_passes, ok_does}
use Rattle.term_nodes.proofs.nodes.grid_with.Goals as goal

pub returns-in-Err : goal.returns-in-Err
returns-in-Err c = record { did = λ printed. err_passes (λ (t : Term). t) c.args.column c.in-Err.stop _ (grid_node c.args.at c.args.place (term_cells_seen c.args.cells) c.args.row) c.in-Err.is (λ t. goes_then (goes_charge _ _) (λ _. goes_node _ _ _)) }

pub returns-in-Ok : goal.returns-in-Ok
returns-in-Ok c = record { did = λ printed. ok_does (λ (t : Term). t) (λ (t : Term). t) c.args.column c.in-Ok.column _ _ _ (grid_node c.args.at c.args.place (term_cells_seen c.args.cells) c.args.row) c.in-Ok.is (c.grid_of.ensures.did printed) }
