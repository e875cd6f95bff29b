use Rattle.std.proofs.Common.{refl}
use Rattle.comet_meaning.specs.Operators.{unary_result}
use Rattle.comet_meaning.proofs.GoingParts.{goes_unary_result}
use Rattle.run_values.specs.Views.{value_seen}
use Rattle.run_steps.proofs.Behind.{err_passes, ok_acts}
use Rattle.run_steps.proofs.operands.apply_unary.Goals as goal

pub returns-in-Err : goal.returns-in-Err
returns-in-Err c = record { did = λ s. err_passes value_seen c.args.operand c.in-Err.stop _ (unary_result c.args.at c.args.operator) c.in-Err.is (λ v. goes_unary_result _ _ v) }

pub returns-in-Ok : goal.returns-in-Ok
returns-in-Ok c = record { did = λ s. ok_acts value_seen value_seen c.args.operand c.in-Ok.value _ _ _ (unary_result c.args.at c.args.operator) c.in-Ok.is (λ v. goes_unary_result _ _ v) refl (c.unary.ensures.did s) }
