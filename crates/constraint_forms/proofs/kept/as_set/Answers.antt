use Rattle.std.proofs.Common.{ℤ, List}
use Rattle.comet_meaning.specs.Outcome.{give}
use Rattle.comet_meaning.specs.Values.{members_of}
use Rattle.comet_meaning.proofs.GoingOn.{goes_give}
use Rattle.run_values.specs.Views.{value_seen}
use Rattle.run_steps.proofs.Behind.{err_passes, ok_gives}
use Rattle.constraint_forms.proofs.kept.as_set.Goals as goal

pub returns-in-Err : goal.returns-in-Err
returns-in-Err c = record { did = λ s. err_passes value_seen c.args.value c.in-Err.stop _ (λ v. give (members_of v)) c.in-Err.is (λ v. goes_give) }

pub returns-in-Ok : goal.returns-in-Ok
returns-in-Ok c = record { did = λ s. ok_gives value_seen (λ (xs : List ℤ). xs) c.args.value c.in-Ok.value c.set_or_empty.result _ members_of c.in-Ok.is c.set_or_empty.ensures }
