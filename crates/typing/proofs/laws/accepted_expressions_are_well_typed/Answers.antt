use Rattle.typing.proofs.Complete.{complete}
use Rattle.typing.proofs.laws.accepted_expressions_are_well_typed.Goals as goal

pub returns : goal.returns
returns c = λ scope before e x after h. complete e scope before x after (record { is = h })
