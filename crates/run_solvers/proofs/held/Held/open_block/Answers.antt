-- What was tried is finished.
use Rattle.run_solvers.proofs.FoundSolvers.{finished}
use Rattle.run_solvers.proofs.held.Held.open_block.Goals as goal

pub finish-requires : goal.finish-requires
finish-requires g c = c.try_open-made.ensures.tries.kept

pub returns-clause-changes : goal.returns-clause-changes
returns-clause-changes g c =
    finished c.args.self.now _ _ c.try_open-made.result c.finish.result _ c.try_open-made.ensures.tries c.finish.ensures.same c.finish.ensures.kept c.finish.ensures.number c.finish.ensures.unchanged
