use Rattle.store_laws.proofs.Tells.{has_failure, has_value}
use Rattle.store_laws.proofs.laws.failure_law.Goals as goal

pub returns-clause-value : goal.returns-clause-value
returns-clause-value c = λ users M a g total given holds free assigned whole there target is o meaning x e. has_value users M g total holds whole there target is a given free assigned o meaning x e

pub returns-clause-failure : goal.returns-clause-failure
returns-clause-failure c = λ users M a g total given holds free assigned whole there target is o meaning id fault first. has_failure users M g total holds whole there target is a given free assigned o meaning id fault first
