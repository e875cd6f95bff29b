use Rattle.build_statements.proofs.Trees.{written_block_of}
use Rattle.build_statements.proofs.nodes.make_block.Goals as goal

pub returns : goal.returns
returns c = written_block_of c.args.place c.args.statements
