use Rattle.comet_meaning.specs.Declarations.{start_number}
use Rattle.declaration_forms.proofs.array_declarations.start_number.Goals as goal

pub returns-in-Some : goal.returns-in-Some
unfolding start_number
returns-in-Some g c = record { did = rw c.in-Some.is c.number_of.ensures.did }
