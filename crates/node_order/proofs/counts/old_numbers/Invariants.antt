use Rattle.std.proofs.Common.{◌≡◌, take, map}
use Rattle.node_order.specs.Lowering.{old_number}
use Rattle.node_order.proofs.counts.old_numbers.Given as goal

abbrev pub invariant-loop-change : goal.invariant-loop-change
invariant-loop-change l = l.old.items ≡ map old_number (take l.change-index l.changes)
