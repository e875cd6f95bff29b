use Rattle.ls_solver.proofs.committing.commit_in.Given as goal

abbrev pub ghost-commit : goal.ghost-commit
ghost-commit g a = g.setting
