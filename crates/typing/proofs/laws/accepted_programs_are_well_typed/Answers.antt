use Rattle.typing.proofs.Wholes.{program_typed}
use Rattle.typing.proofs.laws.accepted_programs_are_well_typed.Goals as goal

pub returns : goal.returns
returns c = λ p w h. program_typed p w h
