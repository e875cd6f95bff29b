use Rattle.comet_meaning.proofs.GoingStatements.{run_fuel, run_printed}
use Rattle.comet_meaning.proofs.laws.runs_go_onward.Goals as goal

pub returns-clause-fuel : goal.returns-clause-fuel
returns-clause-fuel c = λ p s. run_fuel p s

pub returns-clause-printed : goal.returns-clause-printed
returns-clause-printed c = λ p s. run_printed p s
