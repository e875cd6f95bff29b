use Rattle.random_models.proofs.drawn.+draw_term.Given as goal

abbrev pub decreases-draw_term : goal.decreases-draw_term
decreases-draw_term l = l.depth
