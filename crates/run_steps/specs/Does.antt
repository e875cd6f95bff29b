-- What a call answers is what the part of the program does: the same value and the same state, or the same end of the
-- run. Where memory ran out, or the output stopped, what was printed is a front of what the part prints. A rule of
-- this project.
use Rattle.std.specs.Prelude.{◌≡◌, Result, Ok, Err}
use Rattle.comet_meaning.specs.State.{State, left}
use Rattle.comet_meaning.specs.Outcome.{Outcome, Went, Halted, Faulted, SpentAt, Cyclic}
use Rattle.comet_meaning.specs.Onward.{IsFront, left_by}
use Rattle.run_values.specs.declared.stop.Stop.{Stop}
use Rattle.run_values.specs.declared.stop.Stop.TheVariants as stops
use Rattle.run_values.specs.declared.stop.Stop.TheVariants.{Fault, Spent, NoMemory, Output}

-- the run stopped so, and left this state
abbrev pub Ends : {A : Type 0} → Stop → State → Outcome A → Type 0
Ends (Fault place f) s o = o ≡ Halted (Faulted place f) (left s)
Ends (Spent place) s o = o ≡ Halted (SpentAt place) (left s)
Ends (stops.Cyclic place names) s o = o ≡ Halted (Cyclic place names) (left s)
Ends NoMemory s o = IsFront s.printed (left_by o).printed
Ends (Output stop) s o = IsFront s.printed (left_by o).printed

-- the answer, seen by `view`, and the state that is left are those of the outcome
abbrev pub Does : {X A : Type 0} → (X → A) → Result X Stop → State → Outcome A → Type 0
Does view (Ok x) s o = o ≡ Went (view x) s
Does view (Err stop) s o = Ends stop s o
