use Rattle.std.proofs.Common.{◌≡◌, take}
use Rattle.run_solvers.specs.Refusals.{names_at}
use Rattle.run_solvers.proofs.refusals.names_of.Given as goal

abbrev pub invariant-loop-variable : goal.invariant-loop-variable
invariant-loop-variable l = l.found ≡ names_at l.names (take l.variable-index l.variables)
