use Rattle.type_trees.proofs.Programs.{judged_alike}
use Rattle.type_trees.proofs.laws.programs_alike.Goals as goal

pub returns : goal.returns
returns c = judged_alike
