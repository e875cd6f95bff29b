use Rattle.std.proofs.Common.{◌≡◌, take}
use Rattle.node_set.specs.Edits.{is_in_after}
use Rattle.node_set.proofs.member.is_in_after.Given as goal

abbrev pub invariant-loop-change : goal.invariant-loop-change
invariant-loop-change l = l.is_in ≡ is_in_after l.number l.fn.is_in (take l.change-index l.changes)
