use Rattle.comet_syntax.proofs.Heads.{covers, covered}
use Rattle.comet_syntax.proofs.laws.first_is_what_forms_begin_with.Goals as goal

pub returns-clause-each : goal.returns-clause-each
returns-clause-each c = λ part. covers part

pub returns-clause-no_other : goal.returns-clause-no_other
returns-clause-no_other c = λ part. covered part
