use Rattle.random_models.proofs.plain.+recursion.Given as goal

abbrev pub decreases-outcome : goal.decreases-outcome
decreases-outcome l = l.deep

abbrev pub decreases-value : goal.decreases-value
decreases-value l = l.deep
