-- A call answers the refusal that its state and arguments call for, where they call for one, and else it doesn't
-- refuse; where memory ran out it may answer that instead. A rule of this project.
use Rattle.std.specs.Prelude.{◌≡◌, ℤ, Option, Some, None, Result, Ok, Err}
use Rattle.cbl_base.specs.declared.faults.RunFault.{RunFault}
use Rattle.model_values.specs.declared.asked.AskStop.{AskStop}
use Rattle.model_values.specs.declared.asked.AskStop.TheVariants as asked
use Rattle.ls_solver.specs.declared.fault.SolverFault.{SolverFault}
use Rattle.ls_solver.specs.declared.fault.SolverFault.TheVariants.{Run, At, Cyclic, NoMemory}

abbrev pub IsRefusal : Option RunFault → SolverFault → Type 0
IsRefusal refusal (Run fault) = refusal ≡ Some fault
IsRefusal refusal (At place fault) = ⊥
IsRefusal refusal (Cyclic cycle) = ⊥
IsRefusal refusal NoMemory = Unit {0}

abbrev pub Answers : {A : Type 0} → Option RunFault → Result A SolverFault → Type 0
Answers refusal (Ok answer) = refusal ≡ None
Answers refusal (Err fault) = IsRefusal refusal fault

-- the same of a call that hands back what it was given
abbrev pub AnswersBack : {A B : Type 0} → Option RunFault → Result A (SolverFault × B) → Type 0
AnswersBack refusal (Ok answer) = refusal ≡ None
AnswersBack refusal (Err back) = IsRefusal refusal back.0

-- the same of a call that wants no memory
abbrev pub IsOnlyRefusal : Option RunFault → SolverFault → Type 0
IsOnlyRefusal refusal (Run fault) = refusal ≡ Some fault
IsOnlyRefusal refusal (At place fault) = ⊥
IsOnlyRefusal refusal (Cyclic cycle) = ⊥
IsOnlyRefusal refusal NoMemory = ⊥

abbrev pub Tells : {A : Type 0} → Option RunFault → Result A SolverFault → Type 0
Tells refusal (Ok answer) = refusal ≡ None
Tells refusal (Err fault) = IsOnlyRefusal refusal fault

-- the answer to a question is this reply; where memory ran out it may be that instead
abbrev pub IsReply : Result ℤ AskStop → Result ℤ SolverFault → Type 0
IsReply reply (Ok number) = reply ≡ Ok number
IsReply reply (Err (Run fault)) = reply ≡ Err (asked.Run fault)
IsReply reply (Err (At place fault)) = reply ≡ Err (asked.Fault place fault)
IsReply reply (Err (Cyclic cycle)) = ⊥
IsReply reply (Err NoMemory) = Unit {0}
