use Rattle.typing.proofs.StatementsGo.{statement_goes}
use Rattle.typing.proofs.laws.well_typed_statements_are_accepted.Goals as goal

pub returns : goal.returns
returns c = λ scope before x w after h. (statement_goes h).is
