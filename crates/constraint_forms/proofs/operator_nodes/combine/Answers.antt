use Rattle.cbl_operations.specs.declared.op.Op.TheVariants as ops
use Rattle.comet_meaning.proofs.GoingTerms.{goes_node}
use Rattle.comet_meaning.specs.ConstraintForms.{combination_op}
use Rattle.comet_meaning.specs.TermForms.{node_form}
use Rattle.term_model.specs.declared.term.Term.{Term}
use Rattle.run_steps.proofs.Behind.{err_passes, ok_does}
use Rattle.constraint_forms.proofs.operator_nodes.combine.Goals as goal

pub returns-in-Err : goal.returns-in-Err
returns-in-Err c = record { did = λ s. err_passes _ c.args.members c.in-Err.stop _ (node_form c.args.at (ops.Constraint (combination_op c.args.operator))) c.in-Err.is (λ ts. goes_node _ _ ts) }

pub returns-in-Ok : goal.returns-in-Ok
returns-in-Ok c = record { did = λ s. ok_does _ (λ (t : Term). t) c.args.members c.in-Ok.members _ _ _ (node_form c.args.at (ops.Constraint (combination_op c.args.operator))) c.in-Ok.is (rw c.combination.ensures at (c.node_of.ensures.did s)) }
