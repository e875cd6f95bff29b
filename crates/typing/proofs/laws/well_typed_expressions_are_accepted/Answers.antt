use Rattle.typing.proofs.Sound.{sound}
use Rattle.typing.proofs.laws.well_typed_expressions_are_accepted.Goals as goal

pub returns : goal.returns
returns c = λ scope before e x after h. (sound h).is
