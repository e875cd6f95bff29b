use Rattle.type_scopes.proofs.Declarations.{declared, none_declared}
use Rattle.type_scopes.proofs.laws.uses_name_declarations.Goals as goal

pub returns-clause-found : goal.returns-clause-found
returns-clause-found c = declared

pub returns-clause-none : goal.returns-clause-none
returns-clause-none c = none_declared
