-- How a run stops where a solver gives no answer to a call at a place. A rule of this project.
use Rattle.std.specs.Prelude.{◌≡◌, ◌⊎◌, ℕ, List, [], map, slice_index_or}
use Rattle.cbl_base.specs.declared.ids.VarId.{VarId}
use Rattle.cbl_base.specs.declared.place.Place.{Place}
use Rattle.ls_solver.specs.declared.fault.SolverFault.{SolverFault}
use Rattle.ls_solver.specs.declared.fault.SolverFault.TheVariants as faults
use Rattle.run_values.specs.declared.stop.Stop.{Stop}
use Rattle.run_values.specs.declared.stop.Stop.TheVariants.{Fault, Cyclic, NoMemory}

-- the names of variables
abbrev pub names_at : List (List ℕ) → List VarId → List (List ℕ)
names_at names ids = map (λ x. slice_index_or names x.index []) ids

abbrev pub StopsAs : Place → List (List ℕ) → SolverFault → Stop → Type 0
StopsAs at names (faults.Run fault) stop = stop ≡ Fault at fault
StopsAs at names (faults.At place fault) stop = stop ≡ Fault place fault
StopsAs at names (faults.Cyclic ids) stop = (stop ≡ Cyclic at (names_at names ids.items)) ⊎ (stop ≡ NoMemory)
StopsAs at names faults.NoMemory stop = stop ≡ NoMemory
