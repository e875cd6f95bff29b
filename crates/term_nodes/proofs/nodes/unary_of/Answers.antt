use Rattle.comet_meaning.proofs.GoingTerms.{goes_node}
use Rattle.term_nodes.specs.Steps.{unary_node}
use Rattle.term_model.specs.declared.term.Term.{Term}
use Rattle.run_steps.proofs.Behind.{err_passes, ok_does}
use Rattle.term_nodes.proofs.nodes.unary_of.Goals as goal

pub returns-in-Err : goal.returns-in-Err
returns-in-Err c = record { did = λ s. err_passes (λ (t : Term). t) c.args.operand c.in-Err.stop _ (unary_node c.args.at c.args.operator) c.in-Err.is (λ t. goes_node _ _ _) }

pub returns-in-Ok : goal.returns-in-Ok
returns-in-Ok c = record { did = λ s. ok_does (λ (t : Term). t) (λ (t : Term). t) c.args.operand c.in-Ok.operand _ _ _ (unary_node c.args.at c.args.operator) c.in-Ok.is (rw c.unary_operation.ensures at (c.node_of_one.ensures.did s)) }
