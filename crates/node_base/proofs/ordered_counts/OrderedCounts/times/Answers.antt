use Rattle.std.proofs.Common.{ap, ◌∙◌, w64}
use Rattle.std.specs.Prelude.{unwrap_or}
use Rattle.std.proofs.lemmas.Int.{to_z-of_z}
use Rattle.node_base.specs.KeptCounts.{times_kept}
use Rattle.node_base.proofs.ordered_counts.OrderedCounts.times.Goals as goal

pub returns : goal.returns
returns c =
    c.unwrap_or.ensures ∙ ap (λ o. unwrap_or o 0) (c.copied.ensures ∙ c.get.ensures.value)
    ∙ ap (times_kept c.args.self.now) (to_z-of_z w64 c.args.number c.ranges.number)
