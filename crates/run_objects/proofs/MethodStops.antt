-- What stops with a fault or for want of memory stops so, too, among the methods.
use Rattle.std.proofs.Common.{Result, Ok, Err}
use Rattle.std.specs.Prelude.{IfErr}
use Rattle.run_state.specs.OfRunSolvers.Stopping.{IsEndOrMemory}
use Rattle.run_values.specs.Did.{IsFaultOrMemory}
use Rattle.run_values.specs.declared.stop.Stop.{Stop}
use Rattle.run_values.specs.declared.stop.Stop.TheVariants.{Fault, Spent, Cyclic, NoMemory, Output}

fault_stops : (stop : Stop) → IsFaultOrMemory stop → IsEndOrMemory stop
fault_stops (Fault place f) h = tt
fault_stops (Spent place) h = h
fault_stops (Cyclic place names) h = tt
fault_stops NoMemory h = tt
fault_stops (Output stop) h = h

pub stops_so : {X : Type 0} (r : Result X Stop) → IfErr r IsFaultOrMemory → IfErr r IsEndOrMemory
stops_so (Ok x) h = tt
stops_so (Err stop) h = fault_stops stop h
