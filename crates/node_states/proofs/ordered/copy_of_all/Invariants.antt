use Rattle.std.proofs.Common.{◌≡◌, take}
use Rattle.node_states.proofs.ordered.copy_of_all.Given as goal

abbrev pub invariant-loop-input : goal.invariant-loop-input
invariant-loop-input l = l.copy.items ≡ take l.input-index l.inputs
