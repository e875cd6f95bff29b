use Rattle.solver_store.specs.Closed.{setting_of}
use Rattle.ls_solver.proofs.solver.Solver.var_violations.Given as goal

abbrev pub ghost-violations_of_own : goal.ghost-violations_of_own
ghost-violations_of_own g a = setting_of a.self.now.model a.self.now.assignment a.self.now.rules
