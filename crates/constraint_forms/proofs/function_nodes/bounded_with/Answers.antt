use Rattle.comet_meaning.proofs.GoingOn.{goes_charge, goes_then}
use Rattle.comet_meaning.proofs.GoingTerms.{goes_node}
use Rattle.run_steps.specs.OfRunState.InTerms.{term_cells_seen}
use Rattle.run_values.specs.Views.{cells_seen}
use Rattle.term_model.specs.declared.term.Term.{Term}
use Rattle.constraint_forms.specs.Steps.{bounded_node}
use Rattle.run_steps.proofs.Behind.{err_passes, ok_does}
use Rattle.constraint_forms.proofs.function_nodes.bounded_with.Goals as goal

pub returns-in-Err : goal.returns-in-Err
returns-in-Err c = record { did = λ printed. err_passes term_cells_seen c.args.cells c.in-Err.stop _ (bounded_node c.args.at c.args.function c.args.place (cells_seen c.args.bounds.now) c.args.other) c.in-Err.is (λ x. goes_then (goes_charge _ _) (λ _. goes_then (goes_charge _ _) (λ _. goes_then (goes_charge _ _) (λ _. goes_node _ _ _)))) }

pub returns-in-Ok : goal.returns-in-Ok
returns-in-Ok c = record { did = λ printed. ok_does term_cells_seen (λ (t : Term). t) c.args.cells c.in-Ok.cells _ _ _ (bounded_node c.args.at c.args.function c.args.place (cells_seen c.args.bounds.now) c.args.other) c.in-Ok.is (c.bounded_of.ensures.did printed) }
