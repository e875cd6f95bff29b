use Rattle.std.proofs.Common.{◌+◌, ◌*◌, ◌≤◌, subst}
use Rattle.ls_solver.specs.Touching.{touch_of}
use Rattle.ls_solver.specs.Restoring.{moves_to}
use Rattle.ls_solver.proofs.solver.Solver.restore.Goals as goal

pub returns-in-None-clause-steps : goal.returns-in-None-clause-steps
returns-in-None-clause-steps g c =
    subst (λ vs. c.restore_values.new.steps ≤ c.args.steps.now + 4 * touch_of c.args.self.now (moves_to c.args.self.now vs)) c.as_slice.ensures c.restore_values.ensures.steps
