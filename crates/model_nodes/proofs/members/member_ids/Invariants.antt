use Rattle.std.proofs.Common.{take}
use Rattle.model_nodes.proofs.GatherSteps.{AreGatheredTo}
use Rattle.model_nodes.proofs.members.member_ids.Given as goal

abbrev pub invariant-loop-turn : goal.invariant-loop-turn
invariant-loop-turn l = AreGatheredTo l.model l.side (take l.turn l.model.posted.items) l.lists.items
