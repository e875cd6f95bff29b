use Rattle.std.proofs.Common.{◌≡◌, ◌++◌, ◌-◌, length, filter}
use Rattle.std.specs.Prelude.{not}
use Rattle.std.specs.List.{range_with_len}
use Rattle.ls_solver.specs.Ids.{has_definition}
use Rattle.run_solvers.proofs.held.Held.free_indices.Given as goal

-- the free ones so far, and then those of what is left, are all
abbrev pub invariant-loop-index : goal.invariant-loop-index
invariant-loop-index g l = filter (λ i. not (has_definition l.self.solver.model i)) (range_with_len 0 (length l.self.names)) ≡ l.free.items ++ filter (λ i. not (has_definition l.self.solver.model i)) (range_with_len l.index (length l.self.names - l.index))
