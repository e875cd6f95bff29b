use Rattle.term_model.specs.Subterms.{subterms_posted}
use Rattle.term_model.proofs.SubtermLaws.{once_all, once_apart, once_find, posted_again}
use Rattle.term_model.proofs.laws.distinct_subterms_law.Goals as goal

pub returns-clause-all : goal.returns-clause-all
returns-clause-all c = λ M t. once_all t (subterms_posted M M.posted.items)

pub returns-clause-apart : goal.returns-clause-apart
returns-clause-apart c = λ M. once_apart (subterms_posted M M.posted.items)

pub returns-clause-first : goal.returns-clause-first
returns-clause-first c = λ M p fits. once_find p (subterms_posted M M.posted.items) fits

pub returns-clause-again : goal.returns-clause-again
returns-clause-again c = posted_again
