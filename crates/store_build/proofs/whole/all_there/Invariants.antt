use Rattle.std.proofs.Common.{◌≡◌}
use Rattle.store_build.specs.Building.{all_there}
use Rattle.store_build.proofs.whole.all_there.Given as goal

abbrev pub invariant-loop-one : goal.invariant-loop-one
invariant-loop-one g l = l.all.items ≡ all_there l.yielded
