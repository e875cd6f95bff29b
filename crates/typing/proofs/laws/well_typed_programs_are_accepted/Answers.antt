use Rattle.typing.proofs.Wholes.{program_goes}
use Rattle.typing.proofs.laws.well_typed_programs_are_accepted.Goals as goal

pub returns : goal.returns
returns c = λ p w h. program_goes p w h
