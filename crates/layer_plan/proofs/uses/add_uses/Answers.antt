use Rattle.std.proofs.Common.{length, ap, arith}
use Rattle.layer_plan.proofs.UserLists.{among_all, among_more}
use Rattle.layer_plan.proofs.uses.add_uses.Goals as goal

pub loop-place-preserved : goal.loop-place-preserved
loop-place-preserved c = among_more c.args.deps.now c.args.uses.now.items c.loop-place.uses.items _ c.args.item c.loop-place.place c.entry-next.result c.entry-next.ensures.value c.loop-place.invariant c.in_ok-add_user.ensures

pub returns : goal.returns
returns c =
    let size = ap length c.list_of-place-end.ensures in
    among_all c.args.deps.now c.args.uses.now.items c.loop-place.uses.items c.args.item c.loop-place.place (omega arith) c.loop-place.invariant
