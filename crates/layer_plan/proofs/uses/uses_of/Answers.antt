use Rattle.std.proofs.Common.{arith}
use Rattle.layer_plan.proofs.UserLists.{users_all}
use Rattle.layer_plan.proofs.uses.uses_of.Goals as goal

pub returns : goal.returns
returns c = users_all c.args.deps.now c.in_ok-uses.uses.items c.loop-item.uses.items c.loop-item.item (omega arith) c.in_ok-uses.ensures.count c.in_ok-uses.ensures.empty c.loop-item.invariant
