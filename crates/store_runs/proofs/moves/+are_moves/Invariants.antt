use Rattle.std.proofs.Common.{length}
use Rattle.store_runs.proofs.moves.+are_moves.Given as goal

abbrev pub decreases-are_moves : goal.decreases-are_moves
decreases-are_moves l = length l.moves.now
