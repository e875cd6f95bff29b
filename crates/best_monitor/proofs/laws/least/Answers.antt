use Rattle.best_monitor.proofs.Offers.{least_offer}
use Rattle.best_monitor.proofs.laws.least.Goals as goal

pub returns : goal.returns
returns c = λ board entries m within _. least_offer board entries m within
