use Rattle.std.proofs.Common.{refl}
use Rattle.comet_meaning.specs.Parts.{read, read_place}
use Rattle.comet_meaning.proofs.GoingParts.{goes_read}
use Rattle.run_values.specs.Views.{value_seen}
use Rattle.run_steps.specs.Views.{part}
use Rattle.run_steps.proofs.Behind.{err_passes, ok_acts}
use Rattle.run_steps.proofs.operands.read_part.Goals as goal

pub returns-in-Err : goal.returns-in-Err
returns-in-Err g c = record { did = let printed = (g.O.Outside.told c.args.out.now) in err_passes value_seen c.args.value c.in-Err.stop _ (read (read_place (part c.args.e.now))) c.in-Err.is (λ v. goes_read _ v) }

pub returns-in-Ok : goal.returns-in-Ok
returns-in-Ok g c = record { did = let printed = (g.O.Outside.told c.args.out.now) in ok_acts value_seen value_seen c.args.value c.in-Ok.value _ _ _ (read (read_place (part c.args.e.now))) c.in-Ok.is (λ v. goes_read _ v) refl (rw c.read_place.ensures at (c.read.ensures.did)) }
