use Rattle.std.proofs.Common.{refl, rules, ℤ, ◌-ℤ◌, w64, FitsSigned}
use Rattle.std.proofs.lemmas.Int.{to_z-of_z}
use Rattle.comet_meaning.specs.Values.{number_of}
use Rattle.comet_meaning.specs.Writes.{changed}
use Rattle.comet_meaning.proofs.GoingStatements.{goes_changed}
use Rattle.run_objects.specs.OfRunState.Targets.{target_seen}
use Rattle.run_values.specs.Views.{value_seen}
use Rattle.run_steps.proofs.Behind.{err_passes, ok_acts}
use Rattle.run_effects.proofs.effects.subtract_part.Goals as goal

pub returns-in-Err : goal.returns-in-Err
returns-in-Err g c = record { did = let printed = (g.O.Outside.told c.args.out.now) in err_passes (λ (z : ℤ). z) c.args.number c.in-Err.stop _ (λ z. changed c.args.at (target_seen c.args.target.now) (number_of (value_seen c.args.old.now) -ℤ z)) c.in-Err.is (λ z. goes_changed c.args.at (target_seen c.args.target.now) (number_of (value_seen c.args.old.now) -ℤ z)) }

pub returns-in-Ok : goal.returns-in-Ok
returns-in-Ok g c = record { did = let printed = (g.O.Outside.told c.args.out.now) in let f : FitsSigned w64 c.number.result = search rules in let h : FitsSigned w64 c.in-Ok.number = search rules in ok_acts (λ (z : ℤ). z) _ c.args.number c.in-Ok.number _ _ _ (λ z. changed c.args.at (target_seen c.args.target.now) (number_of (value_seen c.args.old.now) -ℤ z)) c.in-Ok.is (λ z. goes_changed c.args.at (target_seen c.args.target.now) (number_of (value_seen c.args.old.now) -ℤ z)) c.subtracted.ensures.printed (rw c.number.ensures at (simp (to_z-of_z w64 c.number.result f, to_z-of_z w64 c.in-Ok.number h) at (c.subtracted.ensures.did))) }
