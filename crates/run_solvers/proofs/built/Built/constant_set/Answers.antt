use Rattle.run_solvers.proofs.BuiltLaws.{set_built, set_seen}
use Rattle.run_solvers.proofs.built.Built.constant_set.Goals as goal

pub leaf-requires : goal.leaf-requires
leaf-requires c = set_built c.args.members

pub returns : goal.returns
returns c = rw c.leaf.ensures (set_seen c.args.members)
