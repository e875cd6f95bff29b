use Rattle.model_view.proofs.PlainParts.{same_depth, same_vars, same_kind, same_users, same_passing, same_outcome, same_both, plain_again}
use Rattle.model_view.proofs.PlainSubterms.{same_subterms}
use Rattle.model_view.proofs.laws.plain_terms_law.Goals as goal

pub returns-clause-depth : goal.returns-clause-depth
returns-clause-depth c = λ t. same_depth t

pub returns-clause-vars : goal.returns-clause-vars
returns-clause-vars c = λ t. same_vars t

pub returns-clause-kind : goal.returns-clause-kind
returns-clause-kind c = λ kinds t. same_kind kinds t

pub returns-clause-users : goal.returns-clause-users
returns-clause-users c = λ t. same_users t

pub returns-clause-passes : goal.returns-clause-passes
returns-clause-passes c = λ p t. same_passing p t

pub returns-clause-subterms : goal.returns-clause-subterms
returns-clause-subterms c = λ t. same_subterms t

pub returns-clause-value : goal.returns-clause-value
returns-clause-value c = λ users env t. same_outcome users env t

pub returns-clause-equal : goal.returns-clause-equal
returns-clause-equal c = λ t u. same_both t u

pub returns-clause-again : goal.returns-clause-again
returns-clause-again c = λ t. plain_again t
