use Rattle.journal_text.proofs.HeaderLaws.{some_clause, none_clause}
use Rattle.journal_text.proofs.header.tail.Goals as goal

pub returns-clause-some : goal.returns-clause-some
returns-clause-some c = some_clause c.args.text.now c.last_header.result c.last_header.ensures

pub returns-clause-none : goal.returns-clause-none
returns-clause-none c = none_clause c.args.text.now c.last_header.result c.last_header.ensures
