-- The end of a run whose output goes to a sink is that of its program's meaning, and the sink has got what that prints. Where
-- memory ran out or the output failed, the sink has got a front of it. A rule of this project.
use Rattle.std.specs.Prelude.{◌≡◌, ℕ, Bool, true, false, List, Option}
use Rattle.cbl_io.specs.Appended.{Appends, AppendsFront}
use Rattle.comet_meaning.specs.Outcome.{Faulted, SpentAt}
use Rattle.comet_meaning.specs.Outcome as outcomes
use Rattle.comet_meaning.specs.Program.{End, Meant}
use Rattle.comet_meaning.specs.Program as programs
use Rattle.stmt_run.specs.declared.execution.RunEnd.{RunEnd}
use Rattle.stmt_run.specs.declared.execution.RunEnd.TheVariants.{Done, Cyclic, Run, Spent, NoMemory, Write}

-- the end is this, and all that is printed was got
abbrev pub Gets : End → Option (List ℕ) → Option (List ℕ) → Meant → Type 0
Gets end old new m = (m.end ≡ end) × Appends old new m.printed

abbrev pub StreamsAs : RunEnd → Option (List ℕ) → Option (List ℕ) → Meant → Type 0
StreamsAs Done old new m = Gets programs.Done old new m
StreamsAs (Cyclic place names) old new m = Gets (programs.Stopped (outcomes.Cyclic place names)) old new m
StreamsAs (Run place f) old new m = Gets (programs.Stopped (Faulted place f)) old new m
StreamsAs (Spent place) old new m = Gets (programs.Stopped (SpentAt place)) old new m
StreamsAs NoMemory old new m = AppendsFront old new m.printed
StreamsAs Write old new m = AppendsFront old new m.printed

-- the end behind the last write, which wrote all or didn't. A run that ends by its output has had a write that failed
abbrev pub ended_with : RunEnd → Bool → RunEnd
ended_with end false = Write
ended_with Write true = NoMemory
ended_with Done true = Done
ended_with (Cyclic place names) true = Cyclic place names
ended_with (Run place f) true = Run place f
ended_with (Spent place) true = Spent place
ended_with NoMemory true = NoMemory
