use Rattle.std.proofs.Common.{◌≡◌, Ok, IfOk, subst}
use Rattle.solver_models.specs.Replying.{fresh_total}
use Rattle.ls_solver.proofs.solver.Solver.violations.Goals as goal

pub returns-clause-value : goal.returns-clause-value
returns-clause-value g c = subst (λ k. IfOk c.total.result (λ v. fresh_total c.args.self.now k ≡ Ok v)) c.of_system.ensures c.total.ensures.value
