use Rattle.std.proofs.Common.{refl}
use Rattle.std.proofs.lemmas.List.{length-set}
use Rattle.layer_plan.proofs.Lists.{list_of-read}
use Rattle.layer_plan.proofs.UserLists.{Adds-one}
use Rattle.store_shares.proofs.users.add_user.Goals as goal

pub returns : goal.returns
returns c =
    let old = c.args.users.now.items in
    let i = c.args.variable in
    let l = c.push.new.self in
    Adds-one old _ i c.args.user c.index_mut.result.now.items l c.requires refl (length-set old i l) (list_of-read old i c.index_mut.result.now _ c.requires c.index_mut.ensures.value) c.in_ok-push.ensures.items
