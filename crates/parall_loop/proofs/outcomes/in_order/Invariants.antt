use Rattle.std.proofs.Common.{◌≡◌, ◌++◌}
use Rattle.std.specs.Vec.Iter.{into_iter_items}
use Rattle.parall_loop.specs.Runs.{filled}
use Rattle.parall_loop.proofs.outcomes.in_order.Given as goal

abbrev pub invariant-loop-place : goal.invariant-loop-place
invariant-loop-place g l = l.outcomes.items ++ filled (into_iter_items l.place-iterator) ≡ filled l.fn.places.items
