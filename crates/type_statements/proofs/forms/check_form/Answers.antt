use Rattle.type_statements.proofs.Folded.{empty_is}
use Rattle.type_statements.proofs.forms.check_form.Goals as goal

pub returns-in-Empty : goal.returns-in-Empty
returns-in-Empty g c = rw (c.in-Empty.is, empty_is c.in-Empty.place) (c.check_empty.ensures c.args.scope c.args.checker.now)
