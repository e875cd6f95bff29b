use Rattle.std.proofs.Common.{◌∙◌}
use Rattle.layer_plan.proofs.Lists.{list_of-read}
use Rattle.base_tests.proofs.layers.list_of.Goals as goal

pub returns : goal.returns
returns c = c.as_slice.ensures.value ∙ list_of-read c.args.deps.now c.args.item _ _ c.requires c.index-deps-item.is
