use Rattle.std.proofs.Common.{◌≡◌, None, take}
use Rattle.run_solvers.proofs.FirstLaws.{first_in}
use Rattle.run_solvers.proofs.firsts.+first_variable.Given as goal

abbrev pub invariant-loop-arg : goal.invariant-loop-arg
invariant-loop-arg l = first_in (take l.arg-index l.arg-items) ≡ None
