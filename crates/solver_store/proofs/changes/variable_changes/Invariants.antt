use Rattle.std.proofs.Common.{◌≡◌, take}
use Rattle.solver_store.specs.ToldChanges.{variable_changes}
use Rattle.solver_store.proofs.changes.variable_changes.Given as goal

abbrev pub invariant-loop-change : goal.invariant-loop-change
invariant-loop-change l = l.told.items ≡ variable_changes l.fn.solver l.fn.count (take l.change-index l.changes)
