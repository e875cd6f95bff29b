use Rattle.std.proofs.Common.{rules, ℤ, w64, FitsSigned}
use Rattle.std.proofs.lemmas.Int.{to_z-of_z}
use Rattle.comet_meaning.specs.Outcome.{give}
use Rattle.comet_meaning.specs.Variables.{beginning_with}
use Rattle.comet_meaning.proofs.GoingOn.{goes_give}
use Rattle.run_objects.specs.OfRunSolvers.Views.{beginning_seen}
use Rattle.run_steps.proofs.Behind.{err_passes, ok_gives}
use Rattle.run_effects.proofs.declaring.as_free.Goals as goal

pub returns-in-Err : goal.returns-in-Err
returns-in-Err c = record { did = λ s. err_passes (λ (z : ℤ). z) c.args.number c.in-Err.stop _ (λ z. give (beginning_with c.args.kind z)) c.in-Err.is (λ z. goes_give) }

pub returns-in-Ok : goal.returns-in-Ok
returns-in-Ok c = record { did = λ s. let f : FitsSigned w64 c.in-Ok.number = search rules in ok_gives (λ (z : ℤ). z) beginning_seen c.args.number c.in-Ok.number c.begins_with.result _ (beginning_with c.args.kind) c.in-Ok.is (rw (to_z-of_z w64 c.in-Ok.number f) at c.begins_with.ensures) }
