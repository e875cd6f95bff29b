use Rattle.comet_meaning.proofs.GoingOn.{goes_charge, goes_then, goes_unless}
use Rattle.comet_meaning.proofs.GoingTerms.{goes_node}
use Rattle.run_steps.specs.OfRunState.InTerms.{term_cells_seen}
use Rattle.run_values.specs.Views.{cells_seen}
use Rattle.term_model.specs.declared.term.Term.{Term}
use Rattle.constraint_forms.specs.Steps.{multi_knapsack_node}
use Rattle.run_steps.proofs.Behind.{err_passes, ok_does}
use Rattle.constraint_forms.proofs.function_nodes.multi_knapsack_with.Goals as goal

pub returns-in-Err : goal.returns-in-Err
returns-in-Err c = record { did = λ printed. err_passes cells_seen c.args.capacities c.in-Err.stop _ (multi_knapsack_node c.args.at c.args.place (term_cells_seen c.args.cells) c.args.other (cells_seen c.args.sizes.now) c.args.last) c.in-Err.is (λ x. goes_then (goes_charge _ _) (λ _. goes_then (goes_charge _ _) (λ _. goes_then (goes_charge _ _) (λ _. goes_then (goes_charge _ _) (λ _. goes_then (goes_unless _ _ _) (λ _. goes_node _ _ _)))))) }

pub returns-in-Ok : goal.returns-in-Ok
returns-in-Ok c = record { did = λ printed. ok_does cells_seen (λ (t : Term). t) c.args.capacities c.in-Ok.capacities _ _ _ (multi_knapsack_node c.args.at c.args.place (term_cells_seen c.args.cells) c.args.other (cells_seen c.args.sizes.now) c.args.last) c.in-Ok.is (c.multi_knapsack_of.ensures.did printed) }
