use Rattle.typing.proofs.SimpleForms.{simple_typed}
use Rattle.typing.proofs.laws.accepted_simples_are_well_typed.Goals as goal

pub returns : goal.returns
returns c = λ scope before st x y after h. simple_typed scope before st x y after (record { is = h })
