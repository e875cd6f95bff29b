use Rattle.comet_meaning.proofs.GoingOn.{goes_then, goes_charge}
use Rattle.comet_meaning.proofs.GoingTerms.{goes_builtin_node}
use Rattle.term_nodes.specs.Steps.{called_node}
use Rattle.term_model.specs.declared.term.Term.{Term}
use Rattle.run_steps.proofs.Behind.{err_passes, ok_does}
use Rattle.term_nodes.proofs.nodes.call_with.Goals as goal

pub returns-in-Err : goal.returns-in-Err
returns-in-Err c = record { did = λ printed. err_passes _ c.args.arguments c.in-Err.stop _ (called_node c.args.at c.args.function) c.in-Err.is (λ ts. goes_then (goes_charge _ _) (λ _. goes_builtin_node _ _ ts)) }

pub returns-in-Ok : goal.returns-in-Ok
returns-in-Ok c = record { did = λ printed. ok_does _ (λ (t : Term). t) c.args.arguments c.in-Ok.arguments _ _ _ (called_node c.args.at c.args.function) c.in-Ok.is (c.charged_function.ensures.did printed) }
