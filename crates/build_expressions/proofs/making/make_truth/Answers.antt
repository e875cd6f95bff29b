use Rattle.parse_stacks.proofs.Trees.{written_truth}
use Rattle.build_expressions.proofs.making.make_truth.Goals as goal

pub returns : goal.returns
returns c = written_truth c.args.value c.args.place
