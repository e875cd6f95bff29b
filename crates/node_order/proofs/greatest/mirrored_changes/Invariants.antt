use Rattle.std.proofs.Common.{◌≡◌, map, take}
use Rattle.node_order.specs.Mirror.{mirrored_change}
use Rattle.node_order.proofs.greatest.mirrored_changes.Given as goal

abbrev pub invariant-loop-change : goal.invariant-loop-change
invariant-loop-change l = l.made.items ≡ map mirrored_change (take l.change-index l.changes)
