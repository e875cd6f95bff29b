-- The end of a run is that of its program's meaning, with the fuel that is left and all that was printed. Where memory ran
-- out or the output failed, what was printed is a front of what the program prints. A rule of this project.
use Rattle.std.specs.Prelude.{◌≡◌, ℕ, Bool, true, false, List, Result, Ok, Err}
use Rattle.comet_meaning.specs.Outcome.{Faulted, SpentAt}
use Rattle.comet_meaning.specs.Outcome as outcomes
use Rattle.comet_meaning.specs.Onward.{IsFront}
use Rattle.comet_meaning.specs.Program.{End, Meant}
use Rattle.comet_meaning.specs.Program as programs
use Rattle.interpreter.specs.OfRunSteps.declared.code.Flow.{Flow}
use Rattle.run_values.specs.declared.stop.OutStop.{OutStop}
use Rattle.run_values.specs.declared.stop.OutStop.TheVariants as outputs
use Rattle.run_values.specs.declared.stop.Stop.{Stop}
use Rattle.run_values.specs.declared.stop.Stop.TheVariants as stops
use Rattle.stmt_run.specs.declared.execution.RunEnd.{RunEnd}
use Rattle.stmt_run.specs.declared.execution.RunEnd.TheVariants.{Done, Cyclic, Run, Spent, NoMemory, Write}

abbrev pub Is : End → ℕ → List ℕ → Meant → Type 0
Is end fuel printed m = m ≡ record { end = end; fuel = fuel; printed = printed }

abbrev pub EndsAs : RunEnd → ℕ → List ℕ → Meant → Type 0
EndsAs Done fuel printed m = Is programs.Done fuel printed m
EndsAs (Cyclic place names) fuel printed m = Is (programs.Stopped (outcomes.Cyclic place names)) fuel printed m
EndsAs (Run place f) fuel printed m = Is (programs.Stopped (Faulted place f)) fuel printed m
EndsAs (Spent place) fuel printed m = Is (programs.Stopped (SpentAt place)) fuel printed m
EndsAs NoMemory fuel printed m = IsFront printed m.printed
EndsAs Write fuel printed m = IsFront printed m.printed

-- the end of a run whose output stopped so: it failed, and tells so, or else memory ran out
abbrev pub output_end : OutStop → Bool → RunEnd
output_end outputs.Full failed = NoMemory
output_end outputs.NoMemory failed = NoMemory
output_end outputs.Failed true = Write
output_end outputs.Failed false = NoMemory

-- the end of a run whose statements ended so, where its output failed or didn't
abbrev pub end_seen : Result Flow Stop → Bool → RunEnd
end_seen (Ok flow) failed = Done
end_seen (Err (stops.Cyclic place names)) failed = Cyclic place names
end_seen (Err (stops.Fault place f)) failed = Run place f
end_seen (Err (stops.Spent place)) failed = Spent place
end_seen (Err stops.NoMemory) failed = NoMemory
end_seen (Err (stops.Output stop)) failed = output_end stop failed
