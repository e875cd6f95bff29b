use Rattle.std.proofs.Common.{◌≡◌}
use Rattle.store_build.specs.Building.{values_there}
use Rattle.store_build.proofs.whole.values_there.Given as goal

abbrev pub invariant-loop-outcome : goal.invariant-loop-outcome
invariant-loop-outcome l = l.values.items ≡ values_there l.yielded
