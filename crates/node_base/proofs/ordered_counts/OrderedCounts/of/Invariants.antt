use Rattle.std.proofs.Common.{take}
use Rattle.node_base.specs.KeptCounts.{times_kept, AreCountsOf}
use Rattle.node_base.proofs.ordered_counts.OrderedCounts.of.Given as goal

abbrev pub invariant-loop-number : goal.invariant-loop-number
invariant-loop-number l = AreCountsOf (times_kept l.counts) (take l.number-index l.numbers)
