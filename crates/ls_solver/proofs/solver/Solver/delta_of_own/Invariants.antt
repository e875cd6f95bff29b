use Rattle.ls_solver.proofs.solver.Solver.delta_of_own.Given as goal

abbrev pub ghost-delta : goal.ghost-delta
ghost-delta g a = g.question
