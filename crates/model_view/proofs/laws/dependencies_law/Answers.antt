use Rattle.model_view.proofs.Dependencies.{dependencies_count, are_items, depends_is, is_depends}
use Rattle.model_view.proofs.laws.dependencies_law.Goals as goal

pub returns-clause-count : goal.returns-clause-count
returns-clause-count c = λ M. dependencies_count M

pub returns-clause-items : goal.returns-clause-items
returns-clause-items c = λ M i d h. are_items M i d h

pub returns-clause-depends : goal.returns-clause-depends
returns-clause-depends c = λ M i d lt h. depends_is M i d lt h

pub returns-clause-all : goal.returns-clause-all
returns-clause-all c = λ M i d lt low h. is_depends M i d lt low h
