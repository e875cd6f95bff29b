-- A run that did what its program means ended as the program means.
use Rattle.std.proofs.Common.{◌≡◌, ◌∙◌, ap, refl, subst, map}
use Rattle.std.specs.Prelude.{ℕ, Bool, true, false, List, Result, Ok, Err}
use Rattle.checked_tree.specs.Tasks.{Whole, function_of, program_of, work_of}
use Rattle.checked_tree.specs.declared.statements.Checked.{Checked}
use Rattle.checked_tree.specs.declared.statements.Function.{Function}
use Rattle.checked_tree.specs.declared.statements.Task.{Task}
use Rattle.comet_meaning.specs.State.{State}
use Rattle.comet_meaning.specs.Outcome.{Outcome, Went, Halted}
use Rattle.comet_meaning.specs.Levels as levels
use Rattle.comet_meaning.specs.Limits.{most_depth}
use Rattle.comet_meaning.specs.Loops.{tasks_form}
use Rattle.comet_meaning.specs.Onward.{IsFront, left_by}
use Rattle.comet_meaning.specs.Program.{meant, meaning_of_program, run, level, code_of}
use Rattle.comet_meaning.specs.Purity.{pure_functions}
use Rattle.interpreter.specs.OfRunSteps.Does.{Does}
use Rattle.interpreter.specs.OfRunSteps.Views.{flow_seen}
use Rattle.interpreter.specs.OfRunSteps.declared.code.Flow.{Flow}
use Rattle.run_values.specs.declared.stop.OutStop.{OutStop}
use Rattle.run_values.specs.declared.stop.OutStop.TheVariants as outputs
use Rattle.run_values.specs.declared.stop.Stop.{Stop}
use Rattle.run_values.specs.declared.stop.Stop.TheVariants as stops
use Rattle.stmt_run.specs.Ending.{EndsAs, end_seen, output_end}
use Rattle.stmt_run.specs.declared.execution.RunEnd.TheVariants.{Write}

front_of : {A : Type 0} (printed : List ℕ) (o : Outcome A) → IsFront printed (left_by o).printed → IsFront printed (meant o).printed
front_of printed (Went x s) h = h
front_of printed (Halted e t) h = h

output_ended : (stop : OutStop) (failed : Bool) (s : State) (o : Outcome levels.Flow) → IsFront s.printed (left_by o).printed → EndsAs (output_end stop failed) s.fuel s.printed (meant o)
output_ended outputs.Full failed s o h = front_of s.printed o h
output_ended outputs.NoMemory failed s o h = front_of s.printed o h
output_ended outputs.Failed true s o h = front_of s.printed o h
output_ended outputs.Failed false s o h = front_of s.printed o h

ended : (r : Result Flow Stop) (failed : Bool) (s : State) (o : Outcome levels.Flow) → Does flow_seen r s o → EndsAs (end_seen r failed) s.fuel s.printed (meant o)
ended (Ok flow) failed s o did = ap meant did
ended (Err (stops.Cyclic place names)) failed s o did = ap meant did
ended (Err (stops.Fault place f)) failed s o did = ap meant did
ended (Err (stops.Spent place)) failed s o did = ap meant did
ended (Err stops.NoMemory) failed s o did = front_of s.printed o did
ended (Err (stops.Output stop)) failed s o did = output_ended stop failed s o did

pub run_ends : (p : Whole) (r : Result Flow Stop) (failed : Bool) (s t : State) → Does flow_seen r t (meaning_of_program p s) → EndsAs (end_seen r failed) t.fuel t.printed (run p s)
unfolding run
run_ends p r failed s t did = ended r failed t (meaning_of_program p s) did

-- a run ends by its output only where that tells of a failure
output_told : (stop : OutStop) (failed : Bool) → output_end stop failed ≡ Write → failed ≡ true
output_told outputs.Full failed e = absurd cc
output_told outputs.NoMemory failed e = absurd cc
output_told outputs.Failed true e = refl
output_told outputs.Failed false e = absurd cc

pub write_told : (r : Result Flow Stop) (failed : Bool) → end_seen r failed ≡ Write → failed ≡ true
write_told (Ok flow) failed e = absurd cc
write_told (Err (stops.Cyclic place names)) failed e = absurd cc
write_told (Err (stops.Fault place f)) failed e = absurd cc
write_told (Err (stops.Spent place)) failed e = absurd cc
write_told (Err stops.NoMemory) failed e = absurd cc
write_told (Err (stops.Output stop)) failed e = output_told stop failed e

-- the functions and the statements of a program are executed as the program
abbrev coded : List Function → List Bool → levels.Code
coded fs ps = record { functions = map function_of fs; pure = ps }

pub executed : (program : Checked) (code : levels.Code) (fs gs : List Function) (ts : List Task) (ps : List Bool) (r : Result Flow Stop) (s t : State) →
    code ≡ coded fs ps → fs ≡ program.functions.items → gs ≡ program.functions.items → ts ≡ program.tasks.items → ps ≡ pure_functions (map function_of gs) →
    Does flow_seen r t (tasks_form (level code most_depth) (map work_of ts) s) → Does flow_seen r t (meaning_of_program (program_of program) s)
unfolding meaning_of_program
executed program code fs gs ts ps r s t is first second third known did =
    let code_is : code ≡ code_of (map function_of program.functions.items) =
    is ∙ ap (λ xs. coded xs ps) first ∙ ap (λ q. coded program.functions.items q) (known ∙ ap (λ xs. pure_functions (map function_of xs)) second) in
    subst (λ o. Does flow_seen r t (o s))
    (ap (λ c. tasks_form (level c most_depth) (map work_of ts)) code_is ∙ ap (λ xs. tasks_form (level (code_of (map function_of program.functions.items)) most_depth) (map work_of xs)) third)
    did
