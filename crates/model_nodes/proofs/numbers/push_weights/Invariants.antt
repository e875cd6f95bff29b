use Rattle.std.proofs.Common.{◌≡◌, ◌++◌, map, take}
use Rattle.model_nodes.proofs.numbers.push_weights.Given as goal

abbrev pub invariant-loop-member : goal.invariant-loop-member
invariant-loop-member l = l.numbers.items ≡ l.fn.numbers.items ++ map (λ m. m.weight) (take l.member-index l.members)
