use Rattle.cbl_violations.specs.Violations.AllOf.{all_of_violations}
use Rattle.diff_comb.proofs.all_of.AllOfNumberNode.value.Goals as goal

pub returns : goal.returns
unfolding all_of_violations
returns c = c.value.ensures
