use Rattle.std.proofs.Common.{◌≡◌, map, take}
use Rattle.store_turns.specs.Meaning.{ids_of, lists_of}
use Rattle.bench.proofs.store.linking.inputs_of.Given as goal

abbrev pub invariant-loop-list : goal.invariant-loop-list
invariant-loop-list l = map (λ v. ids_of v.items) l.inputs.items ≡ lists_of (take l.list-index l.lists)
