use Rattle.std.proofs.Common.{length}
use Rattle.parse_machine.specs.Listing.{shown_all}
use Rattle.parse_stacks.specs.Values.{state}
use Rattle.comet_parse.specs.Building.{Building}
use Rattle.comet_parse.proofs.building.build.Given as goal

-- what is left of the listing shows its front, and what stands on the stacks is written as the rest
abbrev pub invariant-loop-event : goal.invariant-loop-event
invariant-loop-event l = Building (shown_all l.fn.log.items l.fn.tokens) l.log.items l.rest (state l.stacks)

abbrev pub decreases-loop-event : goal.decreases-loop-event
decreases-loop-event l = length l.log.items
