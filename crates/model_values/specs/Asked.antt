-- What is answered to a question about a system or an objective. A rule of this project.
use Rattle.std.specs.Prelude.{◌≡◌, ℤ, Result, Ok, Err}
use Rattle.cbl_base.specs.declared.faults.RunFault.{RunFault}
use Rattle.model_values.specs.declared.asked.AskStop.{AskStop}
use Rattle.model_values.specs.declared.asked.AskStop.TheVariants.{Run, Fault, NoMemory}
use Rattle.model_values.specs.declared.failure.Failure.{Failure}

-- a number, or a fault of the question itself
abbrev pub answer_of : Result ℤ RunFault → Result ℤ AskStop
answer_of (Ok z) = Ok z
answer_of (Err fault) = Err (Run fault)

-- a fault in the model, with its place
abbrev pub stop_at : Failure → AskStop
stop_at f = Fault f.place f.fault

-- the answer is this number or this stop, or there was no memory
abbrev pub IsAnswer : Result ℤ AskStop → Result ℤ AskStop → Type 0
IsAnswer answer (Ok z) = answer ≡ Ok z
IsAnswer answer (Err (Run fault)) = answer ≡ Err (Run fault)
IsAnswer answer (Err (Fault place fault)) = answer ≡ Err (Fault place fault)
IsAnswer answer (Err NoMemory) = Unit {0}
