use Rattle.build_statements.proofs.Trees.{written_simple_alone}
use Rattle.build_statements.proofs.nodes.make_simple_alone.Goals as goal

pub returns : goal.returns
returns c = written_simple_alone c.args.simple
