use Rattle.trial.proofs.trial_calls.answer.Given as goal

abbrev pub ghost-move_all : goal.ghost-move_all
ghost-move_all g a = g.query

abbrev pub ghost-run : goal.ghost-run
ghost-run g a = g.query

abbrev pub ghost-conclude : goal.ghost-conclude
ghost-conclude g a = g.query
