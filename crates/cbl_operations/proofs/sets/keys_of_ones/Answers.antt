use Rattle.std.proofs.Common.{◌∙◌}
use Rattle.cbl_operations.proofs.GivenSets.{given_set}
use Rattle.cbl_operations.proofs.sets.keys_of_ones.Goals as goal

pub returns : goal.returns
returns c = given_set c.from_slice.result _ _ c.from_slice.ensures (c.deref.ensures.value ∙ c.in_ok-found.ensures)
