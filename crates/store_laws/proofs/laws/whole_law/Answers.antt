use Rattle.store_laws.proofs.SameGraphs.{holds_whole}
use Rattle.store_laws.proofs.laws.whole_law.Goals as goal

pub returns : goal.returns
returns c = λ users M g is. holds_whole users M g is
