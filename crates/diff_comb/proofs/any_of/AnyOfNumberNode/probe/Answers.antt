use Rattle.diff_comb.proofs.Lowest.{any_answer}
use Rattle.diff_comb.proofs.any_of.AnyOfNumberNode.probe.Goals as goal

pub returns : goal.returns
returns c = any_answer _ c.probe.result c.probe.ensures
