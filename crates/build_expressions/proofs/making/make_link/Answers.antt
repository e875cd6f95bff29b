use Rattle.build_expressions.proofs.Links.{link_of}
use Rattle.build_expressions.proofs.making.make_link.Goals as goal

pub returns : goal.returns
returns c = link_of c.args.operator c.args.place c.args.operand
