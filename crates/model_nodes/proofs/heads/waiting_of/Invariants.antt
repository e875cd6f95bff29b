use Rattle.std.proofs.Common.{◌≡◌, Some, map}
use Rattle.model_nodes.proofs.heads.waiting_of.Given as goal

abbrev pub invariant-loop-node : goal.invariant-loop-node
invariant-loop-node g l = l.waiting.items ≡ map (λ n. Some n) l.yielded
