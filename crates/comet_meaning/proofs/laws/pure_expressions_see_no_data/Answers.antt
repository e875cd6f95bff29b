use Rattle.comet_meaning.proofs.SpendingPrograms.{pure_spends}
use Rattle.comet_meaning.proofs.laws.pure_expressions_see_no_data.Goals as goal

pub returns : goal.returns
returns c = λ fs d e o s p. (pure_spends fs d e p).inside o s
