use Rattle.bench.proofs.store.asking.time_queens.Given as goal

abbrev pub ghosts-time_store : goal.ghosts-time_store
ghosts-time_store g a = record { name = a.blank.name; parts = a.blank.parts }
