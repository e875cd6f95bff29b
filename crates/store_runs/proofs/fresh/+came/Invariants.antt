use Rattle.store_runs.proofs.fresh.+came.Given as goal

abbrev pub decreases-came : goal.decreases-came
decreases-came l = l.deep
