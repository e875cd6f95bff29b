use Rattle.std.proofs.Common.{◌≡◌, take}
use Rattle.store_turns.specs.Meaning.{ids_of}
use Rattle.model_nodes.proofs.planned.numbers_of_ids.Given as goal

abbrev pub invariant-loop-id : goal.invariant-loop-id
invariant-loop-id l = l.numbers.items ≡ ids_of (take l.id-index l.ids)
