-- How often each number stands in a list, kept in order. A rule of this project.
use Rattle.std.specs.Prelude.{ℤ, List}
use Rattle.node_base.specs.KeptCounts.{times_kept, AreCountsOf as AreTimesOf}
use Rattle.node_base.specs.declared.ordered_counts.OrderedCounts.{OrderedCounts}

-- these are the counts of the list
abbrev pub AreCountsOf : OrderedCounts → List ℤ → Type 0
AreCountsOf counts xs = AreTimesOf (times_kept counts) xs
