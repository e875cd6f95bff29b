use Rattle.std.proofs.Common.{◌∙◌, rules, ℤ, w64, FitsSigned, to_z, of_z}
use Rattle.std.proofs.lemmas.Int.{to_z-of_z}
use Rattle.comet_meaning.specs.Outcome.{give}
use Rattle.comet_meaning.specs.Values.{number_of}
use Rattle.comet_meaning.proofs.GoingOn.{goes_give}
use Rattle.run_values.specs.Views.{value_seen}
use Rattle.run_steps.proofs.Behind.{err_passes, ok_gives}
use Rattle.run_steps.proofs.operands.as_number.Goals as goal

pub returns-in-Err : goal.returns-in-Err
returns-in-Err c = record { did = λ s. err_passes value_seen c.args.value c.in-Err.stop _ (λ v. give (number_of v)) c.in-Err.is (λ v. goes_give) }

pub returns-in-Ok : goal.returns-in-Ok
returns-in-Ok c = record { did = λ s. let f : FitsSigned w64 c.number.result = search rules in ok_gives value_seen (λ (z : ℤ). z) c.args.value c.in-Ok.value (to_z w64 (of_z w64 c.number.result)) _ (number_of) c.in-Ok.is (to_z-of_z w64 c.number.result f ∙ c.number.ensures) }
