use Rattle.std.proofs.Common.{refl}
use Rattle.comet_meaning.specs.Systems.{make_objective}
use Rattle.comet_meaning.proofs.GoingSystems.{goes_make_objective}
use Rattle.term_model.specs.declared.term.Term.{Term}
use Rattle.run_values.specs.Views.{value_seen}
use Rattle.run_steps.proofs.Behind.{err_passes, ok_acts}
use Rattle.run_effects.proofs.effects.objective_made.Goals as goal

pub returns-in-Err : goal.returns-in-Err
returns-in-Err g c = record { did = λ s. err_passes (λ (t : Term). t) c.args.term c.in-Err.stop _ (make_objective c.args.at) c.in-Err.is (λ t. goes_make_objective _ t) }

pub returns-in-Ok : goal.returns-in-Ok
returns-in-Ok g c = record { did = λ s. ok_acts (λ (t : Term). t) value_seen c.args.term c.in-Ok.term _ _ _ (make_objective c.args.at) c.in-Ok.is (λ t. goes_make_objective _ t) c.make_objective.ensures.printed (c.make_objective.ensures.did s) }
