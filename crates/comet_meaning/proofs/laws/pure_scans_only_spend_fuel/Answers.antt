use Rattle.comet_meaning.proofs.SpendingSelection.{pure_scans, all_pure}
use Rattle.comet_meaning.proofs.laws.pure_scans_only_spend_fuel.Goals as goal

pub returns-clause-fuel : goal.returns-clause-fuel
returns-clause-fuel c = λ fs d at gs test key s p q r. (pure_scans fs d at gs test key (all_pure _ gs p) q r).from s

pub returns-clause-inside : goal.returns-clause-inside
returns-clause-inside c = λ fs d at gs test key o s p q r. (pure_scans fs d at gs test key (all_pure _ gs p) q r).inside o s
