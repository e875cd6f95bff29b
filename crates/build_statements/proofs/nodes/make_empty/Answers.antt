use Rattle.build_statements.proofs.Trees.{written_empty}
use Rattle.build_statements.proofs.nodes.make_empty.Goals as goal

pub returns : goal.returns
returns c = written_empty c.args.place
