use Rattle.model_view.proofs.Named.{named_found, named_none, named_once}
use Rattle.model_view.proofs.laws.named_cycle_law.Goals as goal

pub returns-clause-found : goal.returns-clause-found
returns-clause-found c = λ deps list items e. named_found deps list items e

pub returns-clause-none : goal.returns-clause-none
returns-clause-none c = λ deps list items e d. named_none deps list items e d

pub returns-clause-once : goal.returns-clause-once
returns-clause-once c = λ deps a b h k. named_once deps a b h k
