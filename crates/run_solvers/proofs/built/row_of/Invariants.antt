use Rattle.run_solvers.specs.Building.{AreBuilt}
use Rattle.run_solvers.proofs.built.row_of.Given as goal

abbrev pub invariant-loop-built : goal.invariant-loop-built
invariant-loop-built l = AreBuilt l.row.terms.items l.row.deepest l.yielded
