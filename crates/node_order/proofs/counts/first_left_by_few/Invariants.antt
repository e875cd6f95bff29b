use Rattle.std.proofs.Common.{◌≡◌}
use Rattle.node_order.specs.Lowering.{first_left}
use Rattle.node_order.proofs.counts.first_left_by_few.Given as goal

abbrev pub invariant-loop-number : goal.invariant-loop-number
invariant-loop-number l = first_left l.changes l.number-iterator ≡ first_left l.changes l.counts.by_number.entries
