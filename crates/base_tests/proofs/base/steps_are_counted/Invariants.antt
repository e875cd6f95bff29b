use Rattle.base_tests.proofs.base.steps_are_counted.Given as goal

abbrev pub ghosts-walked : goal.ghosts-walked
ghosts-walked a = record { name = a.blank.name; parts = a.blank.parts }
