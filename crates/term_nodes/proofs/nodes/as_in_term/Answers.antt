use Rattle.std.proofs.Common.{refl}
use Rattle.comet_meaning.specs.Outcome.{give}
use Rattle.comet_meaning.specs.Terms.{Single}
use Rattle.comet_meaning.proofs.GoingOn.{goes_give}
use Rattle.run_steps.specs.OfRunState.InTerms.{in_term_seen}
use Rattle.run_steps.specs.OfRunState.declared.standing.InTerm.TheVariants as made
use Rattle.term_model.specs.declared.term.Term.{Term}
use Rattle.run_steps.proofs.Behind.{err_passes, ok_gives}
use Rattle.term_nodes.proofs.nodes.as_in_term.Goals as goal

pub returns-in-Err : goal.returns-in-Err
returns-in-Err c = record { did = λ s. err_passes (λ (t : Term). t) c.args.term c.in-Err.stop _ (λ t. give (Single t)) c.in-Err.is (λ t. goes_give) }

pub returns-in-Ok : goal.returns-in-Ok
returns-in-Ok c = record { did = λ s. ok_gives (λ (t : Term). t) in_term_seen c.args.term c.in-Ok.term (made.Single c.in-Ok.term) _ Single c.in-Ok.is refl }
