use Rattle.std.proofs.Common.{◌≡◌, take}
use Rattle.store_turns.specs.Meaning.{ids_of}
use Rattle.bench.proofs.store.linking.ids_of.Given as goal

abbrev pub invariant-loop-id : goal.invariant-loop-id
invariant-loop-id l = ids_of l.ids.items ≡ take l.id-index l.list
