use Rattle.std.proofs.Common.{take}
use Rattle.model_nodes.proofs.CellSteps.{AreDefinedTo}
use Rattle.model_nodes.proofs.cells.cell_lists.Given as goal

abbrev pub invariant-loop-turn : goal.invariant-loop-turn
invariant-loop-turn l = AreDefinedTo l.model (take l.turn l.model.posted.items) l.lists.items
