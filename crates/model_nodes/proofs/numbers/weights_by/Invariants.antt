use Rattle.std.proofs.Common.{◌≡◌, map}
use Rattle.graph_values.specs.Members.{members_before}
use Rattle.model_nodes.proofs.numbers.weights_by.Given as goal

abbrev pub invariant-loop-total : goal.invariant-loop-total
invariant-loop-total l = l.weights.items ≡ map (λ m. m.weight) (members_before l.model l.fn.side l.total-index)
