-- What a call answers is what the part of the program does: the same value and the same state, or the same end of the
-- run. Where memory ran out, or the output stopped, it tells nothing. A rule of this project.
use Rattle.std.specs.Prelude.{◌≡◌, Result, Ok, Err}
use Rattle.comet_meaning.specs.State.{State, left}
use Rattle.comet_meaning.specs.Outcome.{Outcome, Went, Halted, Faulted, SpentAt, Cyclic}
use Rattle.run_values.specs.declared.stop.Stop.{Stop}
use Rattle.run_values.specs.declared.stop.Stop.TheVariants as stops
use Rattle.run_values.specs.declared.stop.Stop.TheVariants.{Fault, Spent, NoMemory, Output}

-- the run stopped so, and left this state
abbrev pub Stopped : {A : Type 0} → Stop → State → Outcome A → Type 0
Stopped (Fault place f) s o = o ≡ Halted (Faulted place f) (left s)
Stopped (Spent place) s o = o ≡ Halted (SpentAt place) (left s)
Stopped (stops.Cyclic place names) s o = o ≡ Halted (Cyclic place names) (left s)
Stopped NoMemory s o = Unit {0}
Stopped (Output stop) s o = Unit {0}

-- the answer, seen by `view`, and the state that is left are those of the outcome
abbrev pub Did : {X A : Type 0} → (X → A) → Result X Stop → State → Outcome A → Type 0
Did view (Ok x) s o = o ≡ Went (view x) s
Did view (Err stop) s o = Stopped stop s o

-- an operation on values stops with a fault, and one that takes memory also where there is none
abbrev pub IsFault : Stop → Type 0
IsFault (Fault place f) = Unit {0}
IsFault stop = ⊥

abbrev pub IsFaultOrMemory : Stop → Type 0
IsFaultOrMemory (Fault place f) = Unit {0}
IsFaultOrMemory NoMemory = Unit {0}
IsFaultOrMemory stop = ⊥
