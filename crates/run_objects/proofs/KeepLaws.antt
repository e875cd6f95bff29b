-- A solution keeps the numbers of a solver's free variables, where that is closed.
use Rattle.std.proofs.Common.{◌≡◌, refl, sym, ap, ◌∙◌, subst, ℕ, ℤ, Bool, true, false, List}
use Rattle.cbl_base.specs.declared.place.Place.{Place}
use Rattle.cbl_base.specs.declared.faults.RunFault.TheVariants.{NotClosed}
use Rattle.comet_meaning.specs.Outcome.{Act, Outcome, Went, Halted, then_do, ◌>>=◌, give, unless}
use Rattle.comet_meaning.specs.Parts.{solver_at}
use Rattle.comet_meaning.specs.Search.{Snapshot}
use Rattle.comet_meaning.specs.Solutions.{add_solution, free_numbers, make_solution}
use Rattle.comet_meaning.specs.State.{State}
use Rattle.comet_meaning.specs.Values.{Value}
use Rattle.run_state.specs.OfRunSolvers.Solutions.{kept_numbers}
use Rattle.run_values.specs.Did.{Stopped}
use Rattle.run_values.specs.declared.stop.Stop.{Stop}
use Rattle.run_values.specs.declared.stop.Stop.TheVariants as stops
use Rattle.run_values.specs.declared.stop.Stop.TheVariants.{Fault, Spent, NoMemory, Output}

numbers_in : Outcome (List ℤ) → List ℤ → List ℤ
numbers_in (Went xs s) ys = xs
numbers_in (Halted h t) ys = ys

kept_law : (b : Bool) (at : Place) (xs values : List ℤ) (s : State) (f : List ℤ → Act Value) → (unless b at NotClosed >>= λ _. give xs) s ≡ Went values s → (unless b at NotClosed >>= λ _. f xs) s ≡ f values s
unfolding numbers_in
kept_law true at xs values s f e = ap (λ zs. f zs s) (ap (λ o. numbers_in o xs) e)
kept_law false at xs values s f e = cc

pub keeps_numbers : (at : Place) (k j : ℕ) (values : List ℤ) (s : State) → j ≡ k → kept_numbers at (solver_at s k) s ≡ Went values s → make_solution at k s ≡ add_solution (record { solver = j; values = values }) s
unfolding make_solution
keeps_numbers at k j values s same e =
    kept_law (solver_at s k).closed at (free_numbers (solver_at s k)) values s (λ zs. add_solution (record { solver = k; values = zs })) e
    ∙ ap (λ i. add_solution (record { solver = i; values = values }) s) (sym same)

stopped_law : (b : Bool) (at : Place) (xs : List ℤ) (s u : State) (f : List ℤ → Act Value) (stop : Stop) → Stopped stop u ((unless b at NotClosed >>= λ _. give xs) s) → Stopped stop u ((unless b at NotClosed >>= λ _. f xs) s)
stopped_law true at xs s u f (Fault place g) e = cc
stopped_law true at xs s u f (Spent place) e = cc
stopped_law true at xs s u f (stops.Cyclic place names) e = cc
stopped_law true at xs s u f NoMemory e = tt
stopped_law true at xs s u f (Output stop) e = tt
stopped_law false at xs s u f stop e = stopped_as stop u e
  where
    stopped_as : (stop : Stop) (u : State) → Stopped stop u ((unless false at NotClosed >>= λ _. give xs) s) → Stopped stop u ((unless false at NotClosed >>= λ _. f xs) s)
    stopped_as (Fault place g) u e = cc
    stopped_as (Spent place) u e = cc
    stopped_as (stops.Cyclic place names) u e = cc
    stopped_as NoMemory u e = tt
    stopped_as (Output stop) u e = tt

pub keeps_none : (at : Place) (k : ℕ) (s u : State) (stop : Stop) → Stopped stop u (kept_numbers at (solver_at s k) s) → Stopped stop u (make_solution at k s)
unfolding make_solution
keeps_none at k s u stop e = stopped_law (solver_at s k).closed at (free_numbers (solver_at s k)) s u (λ zs. add_solution (record { solver = k; values = zs })) stop e
