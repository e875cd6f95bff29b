use Rattle.solver_store.proofs.closed.Closed.commit.Given as goal

abbrev pub ghost-commit : goal.ghost-commit
ghost-commit g a = g.setting
