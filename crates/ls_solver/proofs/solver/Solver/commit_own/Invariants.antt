use Rattle.solver_store.specs.Closed.{setting_of}
use Rattle.ls_solver.proofs.solver.Solver.commit_own.Given as goal

abbrev pub ghost-commit_closed : goal.ghost-commit_closed
ghost-commit_closed g a = setting_of a.self.now.model a.self.now.assignment a.self.now.rules
