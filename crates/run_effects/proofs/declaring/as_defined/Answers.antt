use Rattle.std.proofs.Common.{refl}
use Rattle.comet_meaning.specs.Outcome.{give}
use Rattle.comet_meaning.specs.Variables.{defined}
use Rattle.comet_meaning.proofs.GoingOn.{goes_give}
use Rattle.run_objects.specs.OfRunSolvers.declared.beginning.Beginning.TheVariants.{Defined}
use Rattle.run_objects.specs.OfRunSolvers.Views.{beginning_seen}
use Rattle.term_model.specs.declared.term.Term.{Term}
use Rattle.run_steps.proofs.Behind.{err_passes, ok_gives}
use Rattle.run_effects.proofs.declaring.as_defined.Goals as goal

pub returns-in-Err : goal.returns-in-Err
returns-in-Err c = record { did = λ s. err_passes (λ (t : Term). t) c.args.term c.in-Err.stop _ (λ t. give (defined t)) c.in-Err.is (λ t. goes_give) }

pub returns-in-Ok : goal.returns-in-Ok
returns-in-Ok c = record { did = λ s. ok_gives (λ (t : Term). t) beginning_seen c.args.term c.in-Ok.term (Defined c.in-Ok.term) _ defined c.in-Ok.is refl }
