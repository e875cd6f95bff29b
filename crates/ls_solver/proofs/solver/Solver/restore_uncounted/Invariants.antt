use Rattle.ls_solver.proofs.solver.Solver.restore_uncounted.Given as goal

abbrev pub ghosts-restore_by : goal.ghosts-restore_by
ghosts-restore_by g a = record { name = a.blank.name; parts = a.blank.parts }
