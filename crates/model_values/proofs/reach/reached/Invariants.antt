use Rattle.std.proofs.Common.{◌+◌, length}
use Rattle.model_values.specs.Reach.{IsReaching, unmarked}
use Rattle.model_values.proofs.reach.reached.Given as goal

abbrev pub invariant-loop-var : goal.invariant-loop-var
invariant-loop-var g l = IsReaching l.tables.model.now l.roots l.marks.items l.stack.items

abbrev pub decreases-loop-var : goal.decreases-loop-var
decreases-loop-var g l = unmarked l.marks.items + length l.stack.items
