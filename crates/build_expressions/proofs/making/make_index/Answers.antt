use Rattle.parse_stacks.proofs.Trees.{written_suffix_cell, written_suffix_index}
use Rattle.build_expressions.proofs.making.make_index.Goals as goal

pub returns-in-None : goal.returns-in-None
returns-in-None c = rw c.in-None.is (written_suffix_index c.args.place c.args.index)

pub returns-in-Some : goal.returns-in-Some
returns-in-Some c = rw c.in-Some.is (written_suffix_cell c.args.place c.args.index c.in-Some.second)
