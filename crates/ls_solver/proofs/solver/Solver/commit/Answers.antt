use Rattle.std.proofs.Common.{sym}
use Rattle.solver_store.proofs.OwnMoves.{own_moves}
use Rattle.ls_solver.proofs.solver.Solver.commit.Goals as goal

pub commit_own-requires-clause-free : goal.commit_own-requires-clause-free
commit_own-requires-clause-free g c = own_moves c.args.self.now c.args.moves.now c.requires.distinct (sym c.in-None.ensures)
