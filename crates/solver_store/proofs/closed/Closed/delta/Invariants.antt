use Rattle.solver_store.proofs.closed.Closed.delta.Given as goal

abbrev pub ghost-told : goal.ghost-told
ghost-told g a = g.question
