use Rattle.comet_meaning.specs.Terms.{standing}
use Rattle.comet_meaning.proofs.GoingOn.{goes_look}
use Rattle.comet_meaning.proofs.GoingTerms.{goes_standing}
use Rattle.run_objects.specs.OfRunState.InTerms.{in_term_seen}
use Rattle.run_steps.proofs.Exits.{act_ends, after, ends_passes}
use Rattle.run_steps.proofs.operands.name_term.Goals as goal

pub returns-in-Err : goal.returns-in-Err
returns-in-Err c = record { did = λ printed. ends_passes c.in-Err.stop _ _ _ _ standing (λ v. goes_standing v) (act_ends _ _ _ (rw c.in-Err.is at (c.look.ensures.did printed)) ((goes_look c.args.slot).from _).printed) }

pub returns-in-Ok : goal.returns-in-Ok
returns-in-Ok c = record { did = λ printed. after in_term_seen _ _ standing (rw c.in-Ok.is at (c.look.ensures.did printed)) (c.standing.ensures.did printed) }
