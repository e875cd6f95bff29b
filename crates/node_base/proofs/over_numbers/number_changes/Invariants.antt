use Rattle.std.proofs.Common.{◌≡◌, take}
use Rattle.node_base.specs.NumberChanges.{number_changes_of}
use Rattle.node_base.proofs.over_numbers.number_changes.Given as goal

abbrev pub invariant-loop-change : goal.invariant-loop-change
invariant-loop-change l = l.all.items ≡ number_changes_of (take l.change-index l.changes)
