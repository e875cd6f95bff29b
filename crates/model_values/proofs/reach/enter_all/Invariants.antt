use Rattle.std.proofs.Common.{take}
use Rattle.model_values.specs.Reach.{Spreads}
use Rattle.model_values.proofs.reach.enter_all.Given as goal

abbrev pub invariant-loop-var : goal.invariant-loop-var
invariant-loop-var l = Spreads (take l.var-index l.vars) l.fn.marks.items l.fn.stack.items l.marks.items l.stack.items
