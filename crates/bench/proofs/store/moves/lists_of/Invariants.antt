use Rattle.std.proofs.Common.{All}
use Rattle.bench.specs.Lists.{moves_in}
use Rattle.bench.specs.Parts.{AreMovesBelow}
use Rattle.bench.proofs.store.moves.lists_of.Given as goal

abbrev pub invariant-loop-list : goal.invariant-loop-list
invariant-loop-list l = All (λ v. AreMovesBelow l.fn.count (moves_in v)) l.lists.items
