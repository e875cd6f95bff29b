use Rattle.model_nodes.proofs.nodes.put_wholes.Given as goal

abbrev pub ghost-put_totals : goal.ghost-put_totals
ghost-put_totals g a = g.about

abbrev pub ghost-put_repeats : goal.ghost-put_repeats
ghost-put_repeats g a = g.about
