use Rattle.std.proofs.Common.{◌≡◌, map, take}
use Rattle.store_turns.specs.Meaning.{ids_of}
use Rattle.model_nodes.proofs.planned.numbers_of_lists.Given as goal

abbrev pub invariant-loop-list : goal.invariant-loop-list
invariant-loop-list l = map (λ n. n.items) l.numbers.items ≡ map (λ v. ids_of v.items) (take l.list-index l.lists)
