use Rattle.std.proofs.Common.{rules, ◌<◌}
use Rattle.term_model.specs.Depth.{depth_of}
use Rattle.term_model.specs.Naming.{users_of}
use Rattle.term_model.proofs.Layers.{depth_below, joined_more}
use Rattle.term_model.proofs.naming.+push_users.Goals as goal

pub push_users-requires : goal.push_users-requires
push_users-requires t c =
    let below : depth_of c.arg-item.result < depth_of c.args.term.now = depth_below c.args.term.now c.in-Node.op c.in-Node.args c.in-Node.place c.deref-arg-items.result.now c.loop-arg.arg-index c.arg-item.result c.in-Node.is c.deref-arg-items.ensures.value c.loop-arg-test.true c.arg-item.is in
    (search (rules, below), tt)

pub loop-arg-preserved : goal.loop-arg-preserved
loop-arg-preserved t c = joined_more users_of c.deref-arg-items.result.now c.loop-arg.arg-index c.arg-item.result _ _ _ c.loop-arg-test.true c.arg-item.is c.loop-arg.invariant (search rules)
