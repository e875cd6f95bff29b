use Rattle.inc_store.proofs.commits.commit_moves.Given as goal

abbrev pub ghost-move_all : goal.ghost-move_all
ghost-move_all g a = g.given

abbrev pub ghost-run : goal.ghost-run
ghost-run g a = g.given.trace
