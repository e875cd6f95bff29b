-- Each cause has its status. A rule of this project.
use Rattle.std.specs.Prelude.{ℕ}
use Rattle.comet_meaning.specs.Outcome.{Faulted, SpentAt, Cyclic}
use Rattle.comet_meaning.specs.Program.{End, Done, Stopped}
use Rattle.comet.specs.declared.report.Cause.{Cause}
use Rattle.comet.specs.declared.report.Cause.TheVariants as causes
use Rattle.stmt_run.specs.declared.execution.RunEnd.{RunEnd}
use Rattle.stmt_run.specs.declared.execution.RunEnd.TheVariants as ends

abbrev pub status_of : Cause → ℕ
status_of causes.Done = 0
status_of causes.Words = 1
status_of (causes.IllFormed place cause) = 2
status_of (causes.IllTyped place code) = 3
status_of (causes.Cyclic place names) = 4
status_of (causes.Run place fault) = 5
status_of (causes.Spent place) = 6
status_of causes.NoMemory = 7
status_of (causes.Read role) = 8
status_of causes.Write = 9

-- the cause of a run whose program ends so
abbrev pub cause_of : End → Cause
cause_of Done = causes.Done
cause_of (Stopped (Faulted place fault)) = causes.Run place fault
cause_of (Stopped (SpentAt place)) = causes.Spent place
cause_of (Stopped (Cyclic place names)) = causes.Cyclic place names

-- the cause of a run that ended so, where memory may have run out or a write may have failed
abbrev pub cause_of_run : RunEnd → Cause
cause_of_run ends.Done = causes.Done
cause_of_run (ends.Cyclic place names) = causes.Cyclic place names
cause_of_run (ends.Run place fault) = causes.Run place fault
cause_of_run (ends.Spent place) = causes.Spent place
cause_of_run ends.NoMemory = causes.NoMemory
cause_of_run ends.Write = causes.Write
