use Rattle.model_view.proofs.PlainChanges.{same_plain, gets_variable, gets_definition}
use Rattle.model_view.proofs.laws.plain_changes_law.Goals as goal

pub returns-clause-same : goal.returns-clause-same
returns-clause-same c = λ M N a b d e f. same_plain M N a b d e f

pub returns-clause-variable : goal.returns-clause-variable
returns-clause-variable c = λ M N v a b d e f. gets_variable M N v a b d e f

pub returns-clause-definition : goal.returns-clause-definition
returns-clause-definition c = λ M N def a b d e f. gets_definition M N def a b d e f
