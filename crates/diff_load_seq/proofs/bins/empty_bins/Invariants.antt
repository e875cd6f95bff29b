use Rattle.std.proofs.Common.{take}
use Rattle.diff_load_seq.specs.Bins.{IsEmptied}
use Rattle.diff_load_seq.proofs.bins.empty_bins.Given as goal

abbrev pub invariant-loop-capacity : goal.invariant-loop-capacity
invariant-loop-capacity l = IsEmptied l.bins (take l.capacity-index l.capacities)
