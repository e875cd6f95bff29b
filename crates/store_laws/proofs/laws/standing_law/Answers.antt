use Rattle.store_laws.proofs.Standing.{subterm_reached, total_below, var_reached}
use Rattle.store_laws.proofs.laws.standing_law.Goals as goal

pub returns-clause-below : goal.returns-clause-below
returns-clause-below c = λ users M g total formed acyclic holds whole there id s. total_below M formed acyclic whole users g holds.terms (total whole) (holds.totals whole there) id s

pub returns-clause-subterms : goal.returns-clause-subterms
returns-clause-subterms c = λ users M g total formed acyclic holds whole there k t at stands. subterm_reached M formed acyclic whole users g holds.terms (total whole) (holds.totals whole there) k t at stands

pub returns-clause-vars : goal.returns-clause-vars
returns-clause-vars c = λ users M g total formed acyclic holds whole there i is. var_reached M formed acyclic whole users g holds.terms (total whole) (holds.totals whole there) i is.1
