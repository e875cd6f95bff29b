-- What a change of a solver answers is what is meant: the solver that is made, or why the run ends. Where memory ran out it
-- tells nothing, and it stops for no other reason. A rule of this project.
use Rattle.std.specs.Prelude.{◌≡◌, Option, Some, None, Result, Ok, Err, Vec, OnOk}
use Rattle.std.specs.declared.alloc.Global.{Global}
use Rattle.ls_events.specs.declared.change.VarChange.{VarChange}
use Rattle.comet_meaning.specs.Outcome.{Faulted, Cyclic}
use Rattle.comet_meaning.specs.Solvers.{SolverState}
use Rattle.run_values.specs.declared.stop.Stop.{Stop}
use Rattle.run_values.specs.declared.stop.Stop.TheVariants as stops
use Rattle.run_values.specs.declared.stop.Stop.TheVariants.{Fault, Spent, NoMemory, Output}
use Rattle.run_solvers.specs.Changing.{Made}
use Rattle.run_solvers.specs.Kept.{IsKept}
use Rattle.run_solvers.specs.Told.{Tells}
use Rattle.run_solvers.specs.Views.{held_seen}
use Rattle.run_solvers.specs.declared.held.Held.{Held}

abbrev pub Ends : Stop → Made → Type 0
Ends (Fault place f) made = made ≡ Err (Faulted place f)
Ends (Spent place) made = ⊥
Ends (stops.Cyclic place names) made = made ≡ Err (Cyclic place names)
Ends NoMemory made = Unit {0}
Ends (Output stop) made = ⊥

abbrev pub Makes : {X : Type 0} → SolverState → Result X Stop → Made → Type 0
Makes m (Ok x) made = made ≡ Ok m
Makes m (Err stop) made = Ends stop made

-- a change that may leave a solver of no use where it stops
pub record Tries {N X : Type 0} (old new : Held N) (result : Result X Stop) (made : Made) : Type 0 where
  pub meant : Makes (held_seen new) result made
  pub kept : OnOk result (IsKept new)
  pub number : new.number ≡ old.number

-- one that leaves a solver that may be used
pub record Changes {N X : Type 0} (old new : Held N) (result : Result X Stop) (made : Made) : Type 0 where
  pub meant : Makes (held_seen new) result made
  pub kept : IsKept new
  pub number : new.number ≡ old.number

-- what is made of a solver, or the solver itself where nothing is to be done
abbrev pub made_or : SolverState → Option Made → Made
made_or m None = Ok m
made_or m (Some made) = made

-- the same of a change of numbers, which tells what changed
pub record TriesToMove {N : Type 0} (old new : Held N) (result : Result (Vec VarChange Global) Stop) (made : Made) : Type 0 where
  pub meant : Makes (held_seen new) result made
  pub kept : OnOk result (IsKept new)
  pub number : new.number ≡ old.number
  pub told : Tells old.number (held_seen old) (held_seen new) result

pub record Moves {N : Type 0} (old new : Held N) (result : Result (Vec VarChange Global) Stop) (made : Made) : Type 0 where
  pub meant : Makes (held_seen new) result made
  pub kept : IsKept new
  pub number : new.number ≡ old.number
  pub told : Tells old.number (held_seen old) (held_seen new) result
