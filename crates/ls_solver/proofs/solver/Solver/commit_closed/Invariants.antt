use Rattle.ls_solver.proofs.solver.Solver.commit_closed.Given as goal

abbrev pub ghost-commit_in : goal.ghost-commit_in
ghost-commit_in g a = g.setting
