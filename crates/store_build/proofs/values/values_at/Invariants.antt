use Rattle.std.proofs.Common.{◌≡◌, Some, take}
use Rattle.store_turns.specs.Meaning.{ids_of}
use Rattle.store_build.specs.Building.{values_in}
use Rattle.store_build.proofs.values.values_at.Given as goal

abbrev pub invariant-loop-id : goal.invariant-loop-id
invariant-loop-id l = values_in l.outcomes (ids_of (take l.id-index l.ids)) ≡ Some l.values.items
