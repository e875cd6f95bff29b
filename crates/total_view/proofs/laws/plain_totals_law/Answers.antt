use Rattle.total_view.proofs.PlainTotals.{same_value_of, same_delta}
use Rattle.total_view.proofs.PlainShares.{same_variable_violations}
use Rattle.total_view.proofs.laws.plain_totals_law.Goals as goal

pub returns-clause-value : goal.returns-clause-value
returns-clause-value c = λ users M a whole. same_value_of users M a whole

pub returns-clause-delta : goal.returns-clause-delta
returns-clause-delta c = λ users M a whole move. same_delta users M a whole move

pub returns-clause-violations : goal.returns-clause-violations
returns-clause-violations c = λ users M a s x. same_variable_violations users M a s x
