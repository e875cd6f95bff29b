use Rattle.typing.proofs.StatementsTyped.{statement_complete}
use Rattle.typing.proofs.laws.accepted_statements_are_well_typed.Goals as goal

pub returns : goal.returns
returns c = λ scope before x w after h. statement_complete x scope before w after (record { is = h })
