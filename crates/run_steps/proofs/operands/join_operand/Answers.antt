use Rattle.std.proofs.Common.{refl}
use Rattle.comet_meaning.specs.Operators.{linked}
use Rattle.comet_meaning.proofs.GoingParts.{goes_linked}
use Rattle.run_values.specs.Views.{value_seen}
use Rattle.run_steps.proofs.Behind.{err_passes, ok_acts}
use Rattle.run_steps.proofs.operands.join_operand.Goals as goal

pub returns-in-Err : goal.returns-in-Err
returns-in-Err c = record { did = λ s. err_passes value_seen c.args.operand c.in-Err.stop _ (linked c.args.link.now.place c.args.link.now.operator (value_seen c.args.so_far.now)) c.in-Err.is (λ w. goes_linked _ _ _ w) }

pub returns-in-Ok : goal.returns-in-Ok
returns-in-Ok c = record { did = λ s. ok_acts value_seen value_seen c.args.operand c.in-Ok.next _ _ _ (linked c.args.link.now.place c.args.link.now.operator (value_seen c.args.so_far.now)) c.in-Ok.is (λ w. goes_linked _ _ _ w) refl (c.linked.ensures.did s) }
