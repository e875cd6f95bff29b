use Rattle.store_laws.proofs.Touches.{touch_same}
use Rattle.store_laws.proofs.laws.touch_law.Goals as goal

pub returns : goal.returns
returns c = λ users M N g is like a b given given' before now o after uses are moved. touch_same users M N g is like a b given given' before now o after uses are moved
