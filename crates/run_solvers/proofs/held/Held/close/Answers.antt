-- What was tried is finished.
use Rattle.run_solvers.proofs.FoundSolvers.{finished}
use Rattle.run_solvers.proofs.held.Held.close.Goals as goal

pub finish-requires : goal.finish-requires
finish-requires g c = c.try_close-made.ensures.kept

pub returns : goal.returns
returns g c =
    finished c.args.self.now _ _ c.try_close-made.result c.finish.result _ c.try_close-made.ensures c.finish.ensures.same c.finish.ensures.kept c.finish.ensures.number c.finish.ensures.unchanged
