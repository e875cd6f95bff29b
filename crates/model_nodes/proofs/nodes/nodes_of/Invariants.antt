use Rattle.model_nodes.proofs.nodes.nodes_of.Given as goal

abbrev pub ghost-all_of : goal.ghost-all_of
ghost-all_of g a = g.about
