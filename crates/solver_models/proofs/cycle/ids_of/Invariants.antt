use Rattle.std.proofs.Common.{◌≡◌, take, map}
use Rattle.solver_models.proofs.cycle.ids_of.Given as goal

abbrev pub invariant-loop-index : goal.invariant-loop-index
invariant-loop-index l = l.ids.items ≡ map (λ i. record { solver = l.solver; index = i }) (take l.index-index l.places)
