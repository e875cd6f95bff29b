use Rattle.comet_meaning.proofs.GoingTerms.{goes_node}
use Rattle.comet_meaning.specs.TermForms.{chain_op, node_form}
use Rattle.term_model.specs.declared.term.Term.{Term}
use Rattle.run_steps.proofs.Behind.{err_passes, ok_does}
use Rattle.term_nodes.proofs.nodes.join_all.Goals as goal

pub returns-in-Err : goal.returns-in-Err
returns-in-Err c = record { did = λ s. err_passes _ c.args.operands c.in-Err.stop _ (node_form c.args.at (chain_op c.args.operator)) c.in-Err.is (λ ts. goes_node _ _ ts) }

pub returns-in-Ok : goal.returns-in-Ok
returns-in-Ok c = record { did = λ s. ok_does _ (λ (t : Term). t) c.args.operands c.in-Ok.operands _ _ _ (node_form c.args.at (chain_op c.args.operator)) c.in-Ok.is (rw c.chain_operation.ensures at (c.node_of.ensures.did s)) }
