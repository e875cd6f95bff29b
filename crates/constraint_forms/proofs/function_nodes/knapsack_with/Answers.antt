use Rattle.std.proofs.Common.{ℤ, rules, w64, FitsSigned}
use Rattle.std.proofs.lemmas.Int.{to_z-of_z}
use Rattle.comet_meaning.proofs.GoingOn.{goes_charge, goes_then, goes_unless}
use Rattle.comet_meaning.proofs.GoingTerms.{goes_node}
use Rattle.run_steps.specs.OfRunState.InTerms.{term_cells_seen}
use Rattle.run_values.specs.Views.{cells_seen}
use Rattle.term_model.specs.declared.term.Term.{Term}
use Rattle.constraint_forms.specs.Steps.{knapsack_node}
use Rattle.run_steps.proofs.Behind.{err_passes, ok_does}
use Rattle.constraint_forms.proofs.function_nodes.knapsack_with.Goals as goal

pub returns-in-Err : goal.returns-in-Err
returns-in-Err c = record { did = λ printed. err_passes (λ (z : ℤ). z) c.args.capacity c.in-Err.stop _ (knapsack_node c.args.at c.args.place (cells_seen c.args.weights.now) c.args.other (term_cells_seen c.args.cells)) c.in-Err.is (λ x. goes_then (goes_charge _ _) (λ _. goes_then (goes_charge _ _) (λ _. goes_then (goes_charge _ _) (λ _. goes_then (goes_unless _ _ _) (λ _. goes_node _ _ _))))) }

pub returns-in-Ok : goal.returns-in-Ok
returns-in-Ok c = let f : FitsSigned w64 c.in-Ok.capacity = search rules in record { did = λ printed. ok_does (λ (z : ℤ). z) (λ (t : Term). t) c.args.capacity c.in-Ok.capacity _ _ _ (knapsack_node c.args.at c.args.place (cells_seen c.args.weights.now) c.args.other (term_cells_seen c.args.cells)) c.in-Ok.is (rw (to_z-of_z w64 c.in-Ok.capacity f) at (c.knapsack_of.ensures.did printed)) }
