use Rattle.run_effects.proofs.Filling.{CountLeft}
use Rattle.run_effects.proofs.cells.cell_count.Given as goal

-- the count so far, with the dimensions that are left, is that of all
abbrev pub invariant-loop-extent : goal.invariant-loop-extent
invariant-loop-extent l = CountLeft l.extents l.extent-index l.count
