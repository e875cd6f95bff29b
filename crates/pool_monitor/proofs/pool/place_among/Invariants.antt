use Rattle.std.proofs.Common.{◌≡◌, ◌≤◌, length, take}
use Rattle.pool_monitor.specs.Pool.{place_for}
use Rattle.pool_monitor.proofs.pool.place_among.Given as goal

-- the place is the same among those that aren't passed yet
abbrev pub invariant-loop-place : goal.invariant-loop-place
invariant-loop-place l = (l.place ≤ length l.solutions) × (place_for l.value (take l.place l.solutions) ≡ place_for l.value l.solutions)

abbrev pub decreases-loop-place : goal.decreases-loop-place
decreases-loop-place l = l.place
