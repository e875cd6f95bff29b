use Rattle.ls_solver.proofs.solver.Solver.commit_uncounted.Given as goal

abbrev pub ghosts-commit_by : goal.ghosts-commit_by
ghosts-commit_by g a = record { name = a.blank.name; parts = a.blank.parts }
