-- Where a variable can't be read the run stops so.
use Rattle.std.proofs.Common.{◌≡◌, ℕ, ℤ, List, Option, Some, sym, subst}
use Rattle.cbl_base.specs.Inputs.{number_kind, set_kind}
use Rattle.cbl_base.specs.declared.ids.VarId.{VarId}
use Rattle.cbl_base.specs.declared.place.Place.{Place}
use Rattle.ls_solver.specs.Answers.{IsOnlyRefusal}
use Rattle.ls_solver.specs.Asking.{own_kind}
use Rattle.ls_solver.specs.Reading.{domain_refusal, set_refusal, value_refusal}
use Rattle.ls_solver.specs.State as solvers
use Rattle.ls_solver.specs.declared.fault.SolverFault.{SolverFault}
use Rattle.ls_solver.specs.declared.fault.SolverFault.TheVariants as faults
use Rattle.comet_meaning.specs.Models.{domain_at}
use Rattle.comet_meaning.specs.Parts.{variable_value}
use Rattle.comet_meaning.specs.State.{State}
use Rattle.run_values.specs.Did.{Stopped}
use Rattle.run_values.specs.declared.stop.Stop.{Stop}
use Rattle.run_solvers.specs.Refusals.{StopsAs}
use Rattle.run_solvers.specs.Views.{solver_seen}
use Rattle.run_solvers.proofs.ValueLaws.{domain_unread, number_unread, set_unread}

module _ (S : solvers.SolverState) (names : List (List ℕ)) (waiting : Option (List (Option ℤ))) (at : Place) (x : VarId) (s : State) where
  pub number_stops : own_kind S x ≡ Some number_kind → (fault : SolverFault) (stop : Stop) → IsOnlyRefusal (value_refusal S x) fault → StopsAs at names fault stop → Stopped stop s (variable_value at x.index (solver_seen S names waiting) s)
  number_stops kind (faults.Run f) stop is told = subst (λ (t : Stop). Stopped t s (variable_value at x.index (solver_seen S names waiting) s)) (sym told) (number_unread S names waiting at x s kind f is)
  number_stops kind (faults.At place f) stop is told = absurd is
  number_stops kind (faults.Cyclic ids) stop is told = absurd is
  number_stops kind faults.NoMemory stop is told = absurd is

  pub set_stops : own_kind S x ≡ Some set_kind → (fault : SolverFault) (stop : Stop) → IsOnlyRefusal (set_refusal S x) fault → StopsAs at names fault stop → Stopped stop s (variable_value at x.index (solver_seen S names waiting) s)
  set_stops kind (faults.Run f) stop is told = subst (λ (t : Stop). Stopped t s (variable_value at x.index (solver_seen S names waiting) s)) (sym told) (set_unread S names waiting at x s kind f is)
  set_stops kind (faults.At place f) stop is told = absurd is
  set_stops kind (faults.Cyclic ids) stop is told = absurd is
  set_stops kind faults.NoMemory stop is told = absurd is

  pub domain_stops : x.solver ≡ S.number → (fault : SolverFault) (stop : Stop) → IsOnlyRefusal (domain_refusal S x) fault → StopsAs at names fault stop → Stopped stop s (domain_at at x (solver_seen S names waiting) s)
  domain_stops own (faults.Run f) stop is told = subst (λ (t : Stop). Stopped t s (domain_at at x (solver_seen S names waiting) s)) (sym told) (domain_unread S names waiting at x s f own is)
  domain_stops own (faults.At place f) stop is told = absurd is
  domain_stops own (faults.Cyclic ids) stop is told = absurd is
  domain_stops own faults.NoMemory stop is told = absurd is
