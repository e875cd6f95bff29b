use Rattle.std.proofs.Common.{refl}
use Rattle.term_model.proofs.posting.posting_of.Goals as goal

pub returns-in-Systems-Constrain-clause-there : goal.returns-in-Systems-Constrain-clause-there
returns-in-Systems-Constrain-clause-there c = λ count h. rw (c.in-Systems-Constrain.is-0, c.in-Systems-Constrain.is-1) (h _ refl)

pub returns-in-Objectives-Part-clause-there : goal.returns-in-Objectives-Part-clause-there
returns-in-Objectives-Part-clause-there c = λ count h. rw (c.in-Objectives-Part.is-0, c.in-Objectives-Part.is-1) (h _ refl)
