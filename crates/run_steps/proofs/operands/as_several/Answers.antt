use Rattle.comet_meaning.specs.Outcome.{give}
use Rattle.comet_meaning.specs.Terms.{several_of}
use Rattle.comet_meaning.proofs.GoingOn.{goes_give}
use Rattle.run_objects.specs.OfRunState.InTerms.{in_term_seen, term_cells_seen}
use Rattle.run_steps.proofs.Behind.{err_passes, ok_gives}
use Rattle.run_steps.proofs.operands.as_several.Goals as goal

pub returns-in-Err : goal.returns-in-Err
returns-in-Err c = record { did = λ s. err_passes in_term_seen c.args.term c.in-Err.stop _ (λ t. give (several_of t)) c.in-Err.is (λ t. goes_give) }

pub returns-in-Ok : goal.returns-in-Ok
returns-in-Ok c = record { did = λ s. ok_gives in_term_seen term_cells_seen c.args.term c.in-Ok.term c.several.result _ several_of c.in-Ok.is c.several.ensures }
