use Rattle.comet_meaning.proofs.GoingTerms.{goes_node}
use Rattle.term_nodes.specs.Steps.{compared}
use Rattle.term_model.specs.declared.term.Term.{Term}
use Rattle.run_steps.proofs.Behind.{err_passes, ok_does}
use Rattle.term_nodes.proofs.nodes.compare_with.Goals as goal

pub returns-in-Err : goal.returns-in-Err
returns-in-Err c = record { did = λ s. err_passes (λ (t : Term). t) c.args.right c.in-Err.stop _ (compared c.args.at c.args.comparison c.args.left) c.in-Err.is (λ t. goes_node _ _ _) }

pub returns-in-Ok : goal.returns-in-Ok
returns-in-Ok c = record { did = λ s. ok_does (λ (t : Term). t) (λ (t : Term). t) c.args.right c.in-Ok.right _ _ _ (compared c.args.at c.args.comparison c.args.left) c.in-Ok.is (c.comparison_of.ensures.did s) }
