use Rattle.comet_meaning.specs.Terms.{standing}
use Rattle.comet_meaning.proofs.GoingTerms.{goes_standing}
use Rattle.run_objects.specs.OfRunState.InTerms.{in_term_seen}
use Rattle.run_values.specs.Views.{value_seen}
use Rattle.run_steps.proofs.Behind.{err_passes, ok_does}
use Rattle.run_steps.proofs.operands.as_standing.Goals as goal

pub returns-in-Err : goal.returns-in-Err
returns-in-Err c = record { did = λ printed. err_passes value_seen c.args.value c.in-Err.stop _ standing c.in-Err.is (λ v. goes_standing v) }

pub returns-in-Ok : goal.returns-in-Ok
returns-in-Ok c = record { did = λ printed. ok_does value_seen in_term_seen c.args.value c.in-Ok.value _ _ _ standing c.in-Ok.is (c.standing.ensures.did printed) }
