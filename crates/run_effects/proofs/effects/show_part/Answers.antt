use Rattle.comet_meaning.proofs.GoingOn.{goes_then}
use Rattle.comet_meaning.proofs.GoingStatements.{goes_print, goes_value_text}
use Rattle.run_objects.specs.OfRunState.Acts.{shown}
use Rattle.run_values.specs.Views.{value_seen}
use Rattle.run_steps.proofs.Behind.{err_passes, ok_does}
use Rattle.run_steps.proofs.Steps.{shows}
use Rattle.run_effects.proofs.effects.show_part.Goals as goal

pub returns-in-Err : goal.returns-in-Err
returns-in-Err g c = record { did = err_passes value_seen c.args.value c.in-Err.stop _ (shown c.args.at) c.in-Err.is (λ v. goes_then (goes_value_text _ v) (λ text. goes_print text)) }

pub returns-in-Ok : goal.returns-in-Ok
returns-in-Ok g c = record { did = ok_does value_seen _ c.args.value c.in-Ok.value _ _ _ (shown c.args.at) c.in-Ok.is (shows _ _ _ _ c.print_value.ensures.did c.print_value.ensures.front) }
