use Rattle.std.proofs.Common.{◌≡◌, take}
use Rattle.node_count.specs.After.{number_after}
use Rattle.node_count.proofs.after.number_after.Given as goal

abbrev pub invariant-loop-change : goal.invariant-loop-change
invariant-loop-change l = l.number ≡ number_after l.place l.fn.number (take l.change-index l.changes)
