use Rattle.std.proofs.Common.{w64, arith, ap, ◌∙◌}
use Rattle.std.proofs.lemmas.Int.{to_z-of_z}
use Rattle.node_base.specs.KeptCounts.{times_kept}
use Rattle.node_base.proofs.ordered_counts.OrderedCounts.take.Goals as goal

pub overflow_sub-count : goal.overflow_sub-count
overflow_sub-count c =
    omega (arith, c.times-times.ensures ∙ ap (times_kept c.args.self.now) (to_z-of_z w64 c.args.number c.ranges.number), c.requires)
