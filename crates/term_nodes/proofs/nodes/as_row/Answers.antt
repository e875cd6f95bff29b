use Rattle.std.proofs.Common.{ap}
use Rattle.comet_meaning.specs.Outcome.{give}
use Rattle.comet_meaning.specs.Terms.{Several, term_row}
use Rattle.comet_meaning.proofs.GoingOn.{goes_give}
use Rattle.run_steps.specs.OfRunState.InTerms.{in_term_seen}
use Rattle.run_steps.specs.OfRunState.declared.standing.InTerm.TheVariants as made
use Rattle.run_steps.proofs.Behind.{err_passes, ok_gives}
use Rattle.term_nodes.proofs.nodes.as_row.Goals as goal

pub returns-in-Err : goal.returns-in-Err
returns-in-Err c = record { did = λ s. err_passes _ c.args.terms c.in-Err.stop _ (λ ts. give (Several (term_row ts))) c.in-Err.is (λ ts. goes_give) }

pub returns-in-Ok : goal.returns-in-Ok
returns-in-Ok c = record { did = λ s. ok_gives _ in_term_seen c.args.terms c.in-Ok.terms (made.Several c.row.result) _ (λ ts. Several (term_row ts)) c.in-Ok.is (ap Several c.row.ensures) }
