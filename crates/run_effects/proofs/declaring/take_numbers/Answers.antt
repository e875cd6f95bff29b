use Rattle.run_values.specs.Views.{value_seen}
use Rattle.run_steps.specs.Operands.{exactly}
use Rattle.run_steps.proofs.Behind.{err_passes, ok_does}
use Rattle.run_steps.proofs.Goes.{goes_exactly}
use Rattle.run_effects.proofs.declaring.take_numbers.Goals as goal

pub returns-in-Err : goal.returns-in-Err
returns-in-Err g c = record { did = let printed = (g.O.Outside.told c.args.out.now) in err_passes value_seen c.args.list c.in-Err.stop _ (exactly c.args.at c.args.place c.args.count) c.in-Err.is (λ v. goes_exactly _ _ _ v) }

pub returns-in-Ok : goal.returns-in-Ok
returns-in-Ok g c = record { did = let printed = (g.O.Outside.told c.args.out.now) in ok_does value_seen _ c.args.list c.in-Ok.list _ _ _ (exactly c.args.at c.args.place c.args.count) c.in-Ok.is (c.numbers_of_list.ensures.did) }
