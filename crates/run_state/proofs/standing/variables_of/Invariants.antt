use Rattle.std.proofs.Common.{◌≡◌, map, take}
use Rattle.comet_meaning.specs.OfModelView.Building.{variable}
use Rattle.run_state.proofs.standing.variables_of.Given as goal

abbrev pub invariant-loop-variable : goal.invariant-loop-variable
invariant-loop-variable l = l.terms.items ≡ map variable (take l.variable-index l.variables)
