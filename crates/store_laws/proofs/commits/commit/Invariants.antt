use Rattle.store_laws.proofs.commits.commit.Given as goal

abbrev pub ghost-commit : goal.ghost-commit
ghost-commit g a = g.setting
