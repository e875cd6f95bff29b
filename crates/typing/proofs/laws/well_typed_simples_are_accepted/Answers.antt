use Rattle.typing.proofs.SimpleForms.{simple_goes}
use Rattle.typing.proofs.laws.well_typed_simples_are_accepted.Goals as goal

pub returns : goal.returns
returns c = λ scope before st x y after h. (simple_goes scope before st x y after h).is
