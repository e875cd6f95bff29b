use Rattle.model_nodes.proofs.parts.put_term.Given as goal

abbrev pub ghost-put : goal.ghost-put
ghost-put g a = g.about
