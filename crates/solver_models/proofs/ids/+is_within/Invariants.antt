use Rattle.std.proofs.Common.{◌≤◌, ◌-◌, map, take}
use Rattle.term_model.specs.Depth.{depth_of, greatest}
use Rattle.solver_models.proofs.ids.+is_within.Given as goal

abbrev pub invariant-loop-arg : goal.invariant-loop-arg
invariant-loop-arg l = greatest (map depth_of (take l.arg-index l.arg-items)) ≤ l.limit - 1
