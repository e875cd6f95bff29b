use Rattle.std.proofs.Common.{map}
use Rattle.comet_meaning.proofs.GoingOn.{goes_then, goes_new_array, goes_put}
use Rattle.run_effects.specs.Extents.{extent_seen}
use Rattle.run_steps.specs.Operands.{made_array}
use Rattle.run_steps.proofs.Behind.{err_passes, ok_does}
use Rattle.run_effects.proofs.effects.make_array.Goals as goal

pub returns-in-Err : goal.returns-in-Err
returns-in-Err c = record { did = λ printed. err_passes _ c.args.numbers c.in-Err.stop _ (made_array c.args.slot (map extent_seen c.args.extents.now)) c.in-Err.is (λ xs. goes_then (goes_new_array _) (λ a. goes_put _ a)) }

pub returns-in-Ok : goal.returns-in-Ok
returns-in-Ok c = record { did = λ printed. ok_does _ _ c.args.numbers c.in-Ok.numbers _ _ _ (made_array c.args.slot (map extent_seen c.args.extents.now)) c.in-Ok.is (c.put_array.ensures.did printed) }
