use Rattle.std.proofs.Common.{Bool}
use Rattle.comet_meaning.specs.Outcome.{give}
use Rattle.comet_meaning.specs.Parts.{broken}
use Rattle.comet_meaning.proofs.GoingOn.{goes_give}
use Rattle.term_model.specs.declared.term.Term.{Term}
use Rattle.run_steps.proofs.Behind.{err_passes, ok_gives}
use Rattle.run_steps.proofs.operands.as_broken.Goals as goal

pub returns-in-Err : goal.returns-in-Err
returns-in-Err c = record { did = λ s. err_passes (λ (b : Bool). b) c.args.truth c.in-Err.stop _ (λ b. give (broken b)) c.in-Err.is (λ b. goes_give) }

pub returns-in-Ok : goal.returns-in-Ok
returns-in-Ok c = record { did = λ s. ok_gives (λ (b : Bool). b) (λ (t : Term). t) c.args.truth c.in-Ok.truth c.broken.result _ broken c.in-Ok.is c.broken.ensures }
