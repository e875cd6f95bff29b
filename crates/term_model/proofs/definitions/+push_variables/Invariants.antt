use Rattle.std.proofs.Common.{◌≡◌, ◌++◌, map, take}
use Rattle.term_model.specs.Definitions.{vars_of, joined}
use Rattle.term_model.specs.Depth.{depth_of}
use Rattle.term_model.proofs.definitions.+push_variables.Given as goal

abbrev pub invariant-loop-arg : goal.invariant-loop-arg
invariant-loop-arg l = l.into.items ≡ l.fn.into.items ++ joined (map vars_of (take l.arg-index l.arg-items))

abbrev pub decreases-push_variables : goal.decreases-push_variables
decreases-push_variables l = depth_of l.term.now
