use Rattle.std.proofs.Common.{◌≡◌, take}
use Rattle.node_set.specs.Edits.{number_after}
use Rattle.node_set.proofs.member.number_after.Given as goal

abbrev pub invariant-loop-change : goal.invariant-loop-change
invariant-loop-change l = l.number ≡ number_after l.fn.number (take l.change-index l.changes)
