use Rattle.std.proofs.Common.{refl, rules, ℤ, w64, FitsSigned}
use Rattle.std.proofs.lemmas.Int.{to_z-of_z}
use Rattle.comet_meaning.specs.Cells.{put}
use Rattle.comet_meaning.specs.Values.{Number}
use Rattle.comet_meaning.proofs.GoingOn.{goes_put}
use Rattle.run_steps.proofs.Behind.{err_passes, ok_acts}
use Rattle.run_effects.proofs.effects.put_number.Goals as goal

pub returns-in-Err : goal.returns-in-Err
returns-in-Err c = record { did = λ printed. err_passes (λ (z : ℤ). z) c.args.number c.in-Err.stop _ (λ z. put c.args.slot (Number z)) c.in-Err.is (λ z. goes_put _ _) }

pub returns-in-Ok : goal.returns-in-Ok
returns-in-Ok c = record { did = λ printed. let f : FitsSigned w64 c.in-Ok.number = search rules in ok_acts (λ (z : ℤ). z) _ c.args.number c.in-Ok.number _ _ _ (λ z. put c.args.slot (Number z)) c.in-Ok.is (λ z. goes_put _ _) refl (rw (to_z-of_z w64 c.in-Ok.number f) at (c.put.ensures.did printed)) }
