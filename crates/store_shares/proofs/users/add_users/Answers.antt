use Rattle.std.proofs.Common.{length, ap, arith}
use Rattle.layer_plan.proofs.UserLists.{among_all, among_more}
use Rattle.store_shares.proofs.users.add_users.Goals as goal

pub loop-place-preserved : goal.loop-place-preserved
loop-place-preserved c = among_more c.args.named.now c.args.users.now.items c.loop-place.users.items _ c.args.user c.loop-place.place c.entry-next.result c.entry-next.ensures.value c.loop-place.invariant c.in_ok-add_user.ensures

pub returns : goal.returns
returns c =
    let size = ap length c.list_of-place-end.ensures in
    among_all c.args.named.now c.args.users.now.items c.loop-place.users.items c.args.user c.loop-place.place (omega arith) c.loop-place.invariant
