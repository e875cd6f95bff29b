-- The files that words ask for. A journal, a replay and the generated program aren't built: where one is asked for, no
-- program is named. A rule of this project.
use Rattle.std.specs.Prelude.{ℕ, ◌||◌, List, Option, Some, None, is_some, if◌then◌else◌}
use Rattle.comet_words.specs.Asked.{Asked}
use Rattle.comet_words.specs.Options.{Origin, Named, Generated}
use Rattle.comet.specs.declared.report.FileRole.{FileRole}
use Rattle.comet.specs.declared.report.FileRole.TheVariants.{Program, Data}

abbrev pub file_of : Origin → Option (List ℕ)
file_of (Named name) = Some name
file_of (Generated size) = None

-- the program's file, where nothing is asked for that isn't built
abbrev pub program_named : Asked → Option (List ℕ)
program_named asks = if is_some asks.replay_file || asks.journal then None else file_of asks.origin

-- the file that is read for a role
abbrev pub file_for : FileRole → Asked → Option (List ℕ)
file_for Program asks = program_named asks
file_for Data asks = asks.data_file
