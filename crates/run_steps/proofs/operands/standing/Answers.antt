use Rattle.comet_meaning.proofs.GoingTerms.{goes_standing}
use Rattle.run_steps.proofs.Exits.{act_does}
use Rattle.run_steps.proofs.operands.standing.Goals as goal

pub returns : goal.returns
returns c = record { did = λ printed. act_does _ _ _ _ (c.standing.ensures.did printed) ((goes_standing _).from _).printed }
