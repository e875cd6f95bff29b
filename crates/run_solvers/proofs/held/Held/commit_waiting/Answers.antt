-- What was tried is finished.
use Rattle.run_solvers.proofs.ToldLaws.{finished_moves}
use Rattle.run_solvers.proofs.held.Held.commit_waiting.Goals as goal

pub finish-requires : goal.finish-requires
finish-requires g c = c.try_commit_waiting-made.ensures.kept

pub returns : goal.returns
returns g c =
    finished_moves c.args.self.now _ _ c.try_commit_waiting-made.result c.finish.result _ c.try_commit_waiting-made.ensures c.finish.ensures.same c.finish.ensures.kept c.finish.ensures.number c.finish.ensures.unchanged
