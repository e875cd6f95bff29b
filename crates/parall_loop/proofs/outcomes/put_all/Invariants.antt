use Rattle.std.proofs.Common.{◌≡◌, length, map}
use Rattle.std.specs.Vec.Iter.{into_iter_items}
use Rattle.iter_claim.specs.Numbers.{AllLess}
use Rattle.parall_loop.specs.Runs.{put_into}
use Rattle.parall_loop.proofs.outcomes.put_all.Given as goal

-- the places, once the outcomes that are left are put in too
abbrev pub invariant-loop-iteration : goal.invariant-loop-iteration
invariant-loop-iteration g l = (put_into l.places.items (into_iter_items l.iteration-iterator) ≡ put_into l.fn.places.items l.fn.outcomes.items) × AllLess (length l.places.items) (map (λ x. x.0) (into_iter_items l.iteration-iterator))
