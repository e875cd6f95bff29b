use Rattle.std.proofs.Common.{◌∙◌}
use Rattle.diff_comb.proofs.Lowest.{any_is_lowest}
use Rattle.diff_comb.proofs.any_of.AnyOfNumberNode.value.Goals as goal

pub returns : goal.returns
returns c = c.value.ensures ∙ any_is_lowest _
