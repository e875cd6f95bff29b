use Rattle.ls_solver.specs.ClosedParts.{question_of}
use Rattle.ls_solver.proofs.solver.Solver.delta.Given as goal

abbrev pub ghost-delta_of_own : goal.ghost-delta_of_own
ghost-delta_of_own g a = question_of a.self.now a.k a.change
