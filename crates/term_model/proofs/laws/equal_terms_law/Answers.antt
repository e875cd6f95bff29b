use Rattle.term_model.proofs.EqualTerms.{same_term_equiv}
use Rattle.term_model.proofs.OperationLaws.{equal_is_same, same_is_equal}
use Rattle.term_model.proofs.laws.equal_terms_law.Goals as goal

pub returns-clause-terms : goal.returns-clause-terms
returns-clause-terms c = same_term_equiv

pub returns-clause-operations : goal.returns-clause-operations
returns-clause-operations c = λ a b. (same_is_equal a b, equal_is_same a b)
