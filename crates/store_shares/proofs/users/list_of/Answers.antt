use Rattle.std.proofs.Common.{◌∙◌}
use Rattle.layer_plan.proofs.Lists.{list_of-read}
use Rattle.store_shares.proofs.users.list_of.Goals as goal

pub returns : goal.returns
returns c = c.as_slice.ensures.value ∙ list_of-read c.args.named.now c.args.variable _ _ c.requires c.index-named-variable.is
