use Rattle.std.proofs.Common.{◌≡◌, take}
use Rattle.store_build.proofs.groups.layers_of.Given as goal

abbrev pub invariant-loop-id : goal.invariant-loop-id
invariant-loop-id l = l.list.items ≡ take l.id l.layers
