use Rattle.run_solvers.proofs.BuiltLaws.{variable_built, variable_seen}
use Rattle.run_solvers.proofs.built.Built.variable.Goals as goal

pub leaf-requires : goal.leaf-requires
leaf-requires c = variable_built c.args.variable

pub returns : goal.returns
returns c = rw c.leaf.ensures (variable_seen c.args.variable)
