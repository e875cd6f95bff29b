use Rattle.std.proofs.Common.{w64, rules}
use Rattle.std.proofs.lemmas.Int.{to_z-of_z}
use Rattle.node_base.proofs.ordered_counts.OrderedCounts.add.Goals as goal

pub overflow_add-times : goal.overflow_add-times
overflow_add-times c = rw (c.times-times.ensures, to_z-of_z w64 c.args.number c.ranges.number) (search rules)
