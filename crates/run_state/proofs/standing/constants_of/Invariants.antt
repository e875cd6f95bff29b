use Rattle.std.proofs.Common.{◌≡◌, map, take}
use Rattle.comet_meaning.specs.OfModelView.Building.{constant}
use Rattle.run_state.proofs.standing.constants_of.Given as goal

abbrev pub invariant-loop-number : goal.invariant-loop-number
invariant-loop-number l = l.terms.items ≡ map constant (take l.number-index l.numbers)
