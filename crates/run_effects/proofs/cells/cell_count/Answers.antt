use Rattle.run_effects.proofs.Filling.{count_starts, count_step}
use Rattle.run_effects.proofs.cells.cell_count.Goals as goal

pub loop-extent-init : goal.loop-extent-init
loop-extent-init c = count_starts _

pub loop-extent-preserved : goal.loop-extent-preserved
loop-extent-preserved c = rw c.counted_along-count.ensures (count_step _ _ _ _ c.loop-extent.invariant c.loop-extent-test.true)
