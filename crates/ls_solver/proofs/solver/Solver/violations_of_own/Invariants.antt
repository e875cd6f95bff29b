use Rattle.ls_solver.proofs.solver.Solver.violations_of_own.Given as goal

abbrev pub ghost-share : goal.ghost-share
ghost-share g a = g.setting
