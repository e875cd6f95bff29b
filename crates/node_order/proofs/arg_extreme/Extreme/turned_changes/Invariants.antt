use Rattle.std.proofs.Common.{◌≡◌, map, take}
use Rattle.node_base.specs.NumberChanges.{number_changes_of}
use Rattle.node_order.specs.Extremes.{turned_change}
use Rattle.node_order.proofs.arg_extreme.Extreme.turned_changes.Given as goal

abbrev pub invariant-loop-change : goal.invariant-loop-change
invariant-loop-change l = l.made.items ≡ map (turned_change l.self) (number_changes_of (take l.change-index l.changes))
