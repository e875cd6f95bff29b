use Rattle.std.proofs.Common.{take}
use Rattle.store_turns.specs.Meaning.{ids_of}
use Rattle.store_build.specs.Marking.{Marks}
use Rattle.store_build.proofs.cones.mark_all.Given as goal

abbrev pub invariant-loop-id : goal.invariant-loop-id
invariant-loop-id l = Marks (ids_of (take l.id-index l.ids)) l.fn.members.items l.fn.stack.items l.members.items l.stack.items
