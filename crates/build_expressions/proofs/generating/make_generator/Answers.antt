use Rattle.parse_stacks.proofs.Trees.{generator_of}
use Rattle.build_expressions.proofs.generating.make_generator.Goals as goal

pub returns : goal.returns
returns c = generator_of c.args.name c.args.domain
