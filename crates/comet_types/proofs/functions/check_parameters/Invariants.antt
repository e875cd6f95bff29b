use Rattle.std.specs.Prelude.{map, []}
use Rattle.type_scopes.specs.State.{each}
use Rattle.type_scopes.proofs.Loops.{Runs}
use Rattle.comet_types.specs.Functions.{next_parameter, parameter_form}
use Rattle.comet_types.specs.View.{kinds_in}
use Rattle.comet_types.proofs.functions.check_parameters.Given as goal

abbrev pub invariant-loop-parameter : goal.invariant-loop-parameter
invariant-loop-parameter l = Runs (next_parameter l.scope) parameter_form l.parameters l.parameter-index (kinds_in l.kinds) l.checker
    (each (next_parameter l.scope) (map parameter_form l.parameters) [] l.fn.checker)
