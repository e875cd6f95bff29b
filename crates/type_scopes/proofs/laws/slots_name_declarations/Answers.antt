use Rattle.type_scopes.proofs.Declarations.{number, inside, slots_apart}
use Rattle.type_scopes.proofs.laws.slots_name_declarations.Goals as goal

pub returns-clause-number : goal.returns-clause-number
returns-clause-number c = number

pub returns-clause-inside : goal.returns-clause-inside
returns-clause-inside c = inside

pub returns-clause-apart : goal.returns-clause-apart
returns-clause-apart c = slots_apart
