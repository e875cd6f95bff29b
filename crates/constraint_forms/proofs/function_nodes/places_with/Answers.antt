use Rattle.comet_meaning.proofs.GoingOn.{goes_charge, goes_give, goes_then}
use Rattle.run_steps.specs.OfRunState.InTerms.{in_term_seen, term_cells_seen}
use Rattle.constraint_forms.specs.Steps.{places_of}
use Rattle.run_steps.proofs.Behind.{err_passes, ok_does}
use Rattle.constraint_forms.proofs.function_nodes.places_with.Goals as goal

pub returns-in-Err : goal.returns-in-Err
returns-in-Err c = record { did = λ printed. err_passes term_cells_seen c.args.cells c.in-Err.stop _ (places_of c.args.at c.args.place) c.in-Err.is (λ x. goes_then (goes_charge _ _) (λ _. goes_then (goes_charge _ _) (λ _. goes_give))) }

pub returns-in-Ok : goal.returns-in-Ok
returns-in-Ok c = record { did = λ printed. ok_does term_cells_seen in_term_seen c.args.cells c.in-Ok.cells _ _ _ (places_of c.args.at c.args.place) c.in-Ok.is (c.places_of.ensures.did printed) }
