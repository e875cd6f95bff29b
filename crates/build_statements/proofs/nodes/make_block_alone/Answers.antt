use Rattle.build_statements.proofs.Trees.{written_block_alone}
use Rattle.build_statements.proofs.nodes.make_block_alone.Goals as goal

pub returns : goal.returns
returns c = written_block_alone c.args.block
