use Rattle.solver_store.proofs.closed.Closed.told.Given as goal

abbrev pub ghost-delta : goal.ghost-delta
ghost-delta g a = g.question
