use Rattle.typing.proofs.Declared.{declaration_goes}
use Rattle.typing.proofs.laws.well_typed_declarations_are_accepted.Goals as goal

pub returns : goal.returns
returns c = λ scope before d x after h. (declaration_goes scope before d x after h).is
