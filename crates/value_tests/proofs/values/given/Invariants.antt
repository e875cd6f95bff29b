use Rattle.value_tests.proofs.values.given.Given as goal

abbrev pub ghosts-given_by : goal.ghosts-given_by
ghosts-given_by g a = record { name = a.blank.name; parts = a.blank.parts }
