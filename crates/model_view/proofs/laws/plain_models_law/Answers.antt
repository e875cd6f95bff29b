use Rattle.model_view.proofs.PlainModels.{same_definition, same_distinct, same_outcomes, same_values}
use Rattle.model_view.proofs.Dependencies.{same_dependencies}
use Rattle.model_view.proofs.laws.plain_models_law.Goals as goal

pub returns-clause-definitions : goal.returns-clause-definitions
returns-clause-definitions c = λ M i. same_definition M i

pub returns-clause-distinct : goal.returns-clause-distinct
returns-clause-distinct c = λ M. same_distinct M

pub returns-clause-variables : goal.returns-clause-variables
returns-clause-variables c = λ users M a. same_outcomes users M a

pub returns-clause-fresh : goal.returns-clause-fresh
returns-clause-fresh c = λ users M a. same_values users M a

pub returns-clause-dependencies : goal.returns-clause-dependencies
returns-clause-dependencies c = λ M. same_dependencies M
