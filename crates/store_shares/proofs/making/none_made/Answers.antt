use Rattle.store_shares.proofs.MakingLaws.{made_none}
use Rattle.store_shares.proofs.making.none_made.Goals as goal

pub returns : goal.returns
returns c ids = made_none c.args.variables ids _ c.in_ok-slots.ensures c.in_ok-members.ensures c.new-parts.ensures.items c.new-systems.ensures.items
