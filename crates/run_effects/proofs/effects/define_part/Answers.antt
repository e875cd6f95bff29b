use Rattle.std.proofs.Common.{refl}
use Rattle.comet_meaning.specs.Writes.{defined_at}
use Rattle.comet_meaning.proofs.GoingStatements.{goes_defined_at}
use Rattle.term_model.specs.declared.term.Term.{Term}
use Rattle.run_objects.specs.OfRunState.Targets.{target_seen}
use Rattle.run_steps.proofs.Behind.{err_passes, ok_acts}
use Rattle.run_effects.proofs.effects.define_part.Goals as goal

pub returns-in-Err : goal.returns-in-Err
returns-in-Err g c = record { did = λ s. err_passes (λ (t : Term). t) c.args.term c.in-Err.stop _ (defined_at c.args.at (target_seen c.args.target.now)) c.in-Err.is (λ t. goes_defined_at _ _ t) }

pub returns-in-Ok : goal.returns-in-Ok
returns-in-Ok g c = record { did = λ s. ok_acts (λ (t : Term). t) _ c.args.term c.in-Ok.term _ _ _ (defined_at c.args.at (target_seen c.args.target.now)) c.in-Ok.is (λ t. goes_defined_at _ _ t) c.define_at.ensures.printed (c.define_at.ensures.did s) }
