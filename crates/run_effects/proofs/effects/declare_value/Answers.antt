use Rattle.std.proofs.Common.{refl}
use Rattle.comet_meaning.proofs.GoingOn.{goes_if, goes_put}
use Rattle.run_values.specs.Views.{value_seen}
use Rattle.run_steps.specs.Copies.{is_array}
use Rattle.run_steps.specs.Operands.{started_value}
use Rattle.run_steps.proofs.Behind.{err_passes, ok_acts}
use Rattle.run_steps.proofs.Steps.{goes_copied_into}
use Rattle.run_effects.proofs.effects.declare_value.Goals as goal

pub returns-in-Err : goal.returns-in-Err
returns-in-Err g c = record { did = let printed = (g.O.Outside.told c.args.out.now) in err_passes value_seen c.args.value c.in-Err.stop _ (started_value c.args.at c.args.place c.args.slot c.args.kind) c.in-Err.is (λ v. goes_if (is_array c.args.kind) (goes_copied_into _ _ _ v) (goes_put _ _)) }

pub returns-in-Ok : goal.returns-in-Ok
returns-in-Ok g c = record { did = let printed = (g.O.Outside.told c.args.out.now) in ok_acts value_seen _ c.args.value c.in-Ok.value _ _ _ (started_value c.args.at c.args.place c.args.slot c.args.kind) c.in-Ok.is (λ v. goes_if (is_array c.args.kind) (goes_copied_into _ _ _ v) (goes_put _ _)) refl (c.start_value.ensures.did) }
