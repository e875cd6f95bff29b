use Rattle.std.proofs.Common.{refl, rules, ℤ, w64, FitsSigned}
use Rattle.std.proofs.lemmas.Int.{to_z-of_z}
use Rattle.run_objects.specs.OfRunState.Acts.{counted}
use Rattle.run_values.specs.Views.{value_seen}
use Rattle.run_steps.proofs.Behind.{err_passes, ok_acts}
use Rattle.run_steps.proofs.Goes.{goes_counted}
use Rattle.run_steps.proofs.operands.count_in_array.Goals as goal

pub returns-in-Err : goal.returns-in-Err
returns-in-Err g c = record { did = let printed = (g.O.Outside.told c.args.out.now) in err_passes (λ (z : ℤ). z) c.args.number c.in-Err.stop _ (counted c.args.at c.args.place (value_seen c.args.array.now)) c.in-Err.is (λ z. goes_counted _ _ _ z) }

pub returns-in-Ok : goal.returns-in-Ok
returns-in-Ok g c = record { did = let printed = (g.O.Outside.told c.args.out.now) in let f : FitsSigned w64 c.in-Ok.number = search rules in ok_acts (λ (z : ℤ). z) value_seen c.args.number c.in-Ok.number _ _ _ (counted c.args.at c.args.place (value_seen c.args.array.now)) c.in-Ok.is (λ z. goes_counted _ _ _ z) refl (rw (to_z-of_z w64 c.in-Ok.number f) at (c.count.ensures.did)) }
