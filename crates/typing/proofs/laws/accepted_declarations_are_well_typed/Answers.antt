use Rattle.typing.proofs.Declared.{declaration_typed}
use Rattle.typing.proofs.laws.accepted_declarations_are_well_typed.Goals as goal

pub returns : goal.returns
returns c = λ scope before d x after h. declaration_typed scope before d x after (record { is = h })
