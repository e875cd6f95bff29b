use Rattle.std.proofs.Common.{◌+◌, length}
use Rattle.store_turns.specs.Meaning.{ids_of}
use Rattle.store_build.specs.Lists.{list_in}
use Rattle.store_build.specs.Marking.{IsMarking, unmarked}
use Rattle.store_build.proofs.cones.mark_below.Given as goal

abbrev pub invariant-loop-id : goal.invariant-loop-id
invariant-loop-id l = IsMarking (λ j. ids_of (list_in l.fn.inputs j)) (length l.fn.inputs) l.fn.target l.members.items l.stack.items

abbrev pub decreases-loop-id : goal.decreases-loop-id
decreases-loop-id l = unmarked l.members.items + length l.stack.items
