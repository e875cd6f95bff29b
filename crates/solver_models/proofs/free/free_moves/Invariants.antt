use Rattle.std.proofs.Common.{◌≡◌, map, zip}
use Rattle.solver_models.specs.Unmarked.{id_in, unmarked_below}
use Rattle.solver_models.proofs.free.free_moves.Given as goal

abbrev pub invariant-loop-index : goal.invariant-loop-index
invariant-loop-index l = l.moves.items ≡ zip (map (id_in l.fn.solver) (unmarked_below l.marks l.index)) l.values
