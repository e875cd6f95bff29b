use Rattle.std.proofs.Common.{◌≡◌, drop}
use Rattle.std.specs.Prelude.{zip}
use Rattle.run_solvers.specs.Waiting.{waiting_behind}
use Rattle.run_solvers.proofs.waiting.wait_each.Given as goal

-- what waits so far, and then the numbers that are left, is all that waits in the end
abbrev pub invariant-loop-place : goal.invariant-loop-place
invariant-loop-place l = waiting_behind (zip (drop l.place l.indices) (drop l.place l.numbers)) l.waiting.items ≡ waiting_behind (zip l.indices l.numbers) l.fn.waiting.items
