use Rattle.std.proofs.Common.{refl}
use Rattle.run_objects.specs.OfRunState.Acts.{listed}
use Rattle.run_values.specs.Views.{value_seen}
use Rattle.run_steps.proofs.Behind.{err_passes, ok_acts}
use Rattle.run_steps.proofs.Steps.{goes_listed_of}
use Rattle.run_effects.proofs.effects.take_list.Goals as goal

pub returns-in-Err : goal.returns-in-Err
returns-in-Err g c = record { did = let printed = (g.O.Outside.told c.args.out.now) in err_passes value_seen c.args.list c.in-Err.stop _ (listed c.args.at c.args.place c.args.count) c.in-Err.is (λ v. goes_listed_of _ _ _ v) }

pub returns-in-Ok : goal.returns-in-Ok
returns-in-Ok g c = record { did = let printed = (g.O.Outside.told c.args.out.now) in ok_acts value_seen (λ numbers. numbers.items) c.args.list c.in-Ok.list _ _ _ (listed c.args.at c.args.place c.args.count) c.in-Ok.is (λ v. goes_listed_of _ _ _ v) refl (c.listed.ensures.did) }
