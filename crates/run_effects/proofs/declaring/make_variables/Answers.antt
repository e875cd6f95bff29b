use Rattle.std.proofs.Common.{map}
use Rattle.run_effects.specs.Extents.{extent_seen}
use Rattle.run_steps.specs.Operands.{made_variables}
use Rattle.run_steps.proofs.Behind.{err_passes, ok_does}
use Rattle.run_steps.proofs.Goes.{goes_made_variables}
use Rattle.run_effects.proofs.declaring.make_variables.Goals as goal

pub returns-in-Err : goal.returns-in-Err
returns-in-Err c = record { did = λ printed. err_passes _ c.args.variables c.in-Err.stop _ (made_variables c.args.slot (map extent_seen c.args.extents.now)) c.in-Err.is (λ xs. goes_made_variables c.args.slot (map extent_seen c.args.extents.now) xs) }

pub returns-in-Ok : goal.returns-in-Ok
returns-in-Ok c = record { did = λ printed. ok_does _ _ c.args.variables c.in-Ok.variables _ _ _ (made_variables c.args.slot (map extent_seen c.args.extents.now)) c.in-Ok.is (c.put_variables.ensures.did printed) }
