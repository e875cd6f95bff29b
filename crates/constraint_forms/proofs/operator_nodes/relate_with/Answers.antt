use Rattle.comet_meaning.proofs.GoingTerms.{goes_node}
use Rattle.constraint_forms.specs.Steps.{related}
use Rattle.term_model.specs.declared.term.Term.{Term}
use Rattle.run_steps.proofs.Behind.{err_passes, ok_does}
use Rattle.constraint_forms.proofs.operator_nodes.relate_with.Goals as goal

pub returns-in-Err : goal.returns-in-Err
returns-in-Err c = record { did = λ s. err_passes (λ (t : Term). t) c.args.right c.in-Err.stop _ (related c.args.at c.args.comparison c.args.left) c.in-Err.is (λ t. goes_node _ _ _) }

pub returns-in-Ok : goal.returns-in-Ok
returns-in-Ok c = record { did = λ s. ok_does (λ (t : Term). t) (λ (t : Term). t) c.args.right c.in-Ok.right _ _ _ (related c.args.at c.args.comparison c.args.left) c.in-Ok.is (c.relation_of.ensures.did s) }
