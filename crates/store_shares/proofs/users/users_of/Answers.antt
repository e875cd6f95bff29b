use Rattle.std.proofs.Common.{arith}
use Rattle.layer_plan.proofs.UserLists.{users_all}
use Rattle.store_shares.proofs.users.users_of.Goals as goal

pub returns : goal.returns
returns c = users_all c.args.named.now c.in_ok-users.users.items c.loop-user.users.items c.loop-user.user (omega arith) c.in_ok-users.ensures.count c.in_ok-users.ensures.empty c.loop-user.invariant
