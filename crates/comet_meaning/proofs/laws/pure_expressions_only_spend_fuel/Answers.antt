use Rattle.comet_meaning.proofs.SpendingPrograms.{pure_spends}
use Rattle.comet_meaning.proofs.laws.pure_expressions_only_spend_fuel.Goals as goal

pub returns : goal.returns
returns c = λ fs d e s p. (pure_spends fs d e p).from s
