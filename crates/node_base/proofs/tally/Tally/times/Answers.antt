use Rattle.std.proofs.Common.{ap, ◌∙◌, w64}
use Rattle.std.proofs.lemmas.Int.{to_z-of_z}
use Rattle.cbl_base.specs.Counts.{count_of}
use Rattle.node_base.specs.KeptCounts.{times_in}
use Rattle.node_base.proofs.tally.Tally.times.Goals as goal

pub returns : goal.returns
returns c =
    c.times.ensures ∙ ap (times_in c.self.inside.counts) (to_z-of_z w64 c.args.number c.ranges.number)
    ∙ c.self.invariant c.args.number ∙ ap (count_of c.args.number) c.self.view_is
