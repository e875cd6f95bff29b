use Rattle.model_nodes.proofs.nodes.all_of.Given as goal

abbrev pub ghost-put_terms : goal.ghost-put_terms
ghost-put_terms g a = g.about

abbrev pub ghost-put_weights : goal.ghost-put_weights
ghost-put_weights g a = g.about

abbrev pub ghost-put_wholes : goal.ghost-put_wholes
ghost-put_wholes g a = g.about
