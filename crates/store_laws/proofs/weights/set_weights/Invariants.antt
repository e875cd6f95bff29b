use Rattle.store_laws.proofs.weights.set_weights.Given as goal

abbrev pub ghost-set_weights : goal.ghost-set_weights
ghost-set_weights g a = g.weighing
