use Rattle.journal_text.proofs.TextLaws.{reading_clause, only_clause}
use Rattle.journal_text.proofs.reader.read.Goals as goal

pub returns-clause-reading : goal.returns-clause-reading
returns-clause-reading c = reading_clause c.args.text.now c.read_text.result c.read_text.ensures

pub returns-clause-only : goal.returns-clause-only
returns-clause-only c = only_clause c.args.text.now c.read_text.result c.read_text.ensures
