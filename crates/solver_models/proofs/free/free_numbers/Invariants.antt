use Rattle.std.proofs.Common.{◌≡◌}
use Rattle.solver_models.specs.FreeVariables.{numbers_at}
use Rattle.solver_models.specs.Unmarked.{unmarked_below}
use Rattle.solver_models.proofs.free.free_numbers.Given as goal

abbrev pub invariant-loop-index : goal.invariant-loop-index
invariant-loop-index l = l.numbers.items ≡ numbers_at l.assignment (unmarked_below l.marks l.index)
