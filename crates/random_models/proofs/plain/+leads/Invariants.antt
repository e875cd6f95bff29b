use Rattle.random_models.proofs.plain.+leads.Given as goal

abbrev pub decreases-leads : goal.decreases-leads
decreases-leads l = l.length
