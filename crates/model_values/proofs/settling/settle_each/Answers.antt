use Rattle.model_values.proofs.Settled.{kept_both, settled_more}
use Rattle.model_values.proofs.settling.settle_each.Goals as goal

pub loop-index-preserved : goal.loop-index-preserved
loop-index-preserved g c = (
  c.in_ok-settle.ensures.right,
  kept_both c.args.cells.now.items c.loop-index.cells.items c.settle.new.cells.items c.loop-index.invariant.1 c.in_ok-settle.ensures.kept,
  settled_more c.args.tables.now.model.now c.args.cells.now.items c.loop-index.cells.items c.settle.new.cells.items c.loop-index.index c.loop-index.invariant.1 c.loop-index.invariant.2 c.in_ok-settle.ensures.kept c.in_ok-settle.ensures.settled,
)
