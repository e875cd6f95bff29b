use Rattle.ls_solver.proofs.solver.Solver.assign_delta_in.Given as goal

abbrev pub ghosts-delta_by : goal.ghosts-delta_by
ghosts-delta_by g a = record { name = a.blank.name; parts = a.blank.parts }
