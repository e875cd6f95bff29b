use Rattle.bench.proofs.PartGraphs.{more_moves}
use Rattle.bench.proofs.store.moves.lists_of.Goals as goal

pub loop-list-preserved : goal.loop-list-preserved
loop-list-preserved c = more_moves c.args.count _ _ _ c.in_ok-push.ensures.items c.loop-list.invariant c.one_of.ensures
