-- What `close` of a solver leaves, and how it stops, is what the meaning of programs says.
use Rattle.std.proofs.Common.{◌≡◌, ℕ, ℤ, Bool, true, false, Vec, Global, List, [], ◌∷◌, Option, Some, None, Result, Ok, Err, inl, inr, map, refl, sym, ap, ◌∙◌, subst, true≢false}
use Rattle.std.specs.Prelude.{is_ok, slice_index_or, if◌then◌else◌}
use Rattle.cbl_base.specs.declared.faults.RunFault.{RunFault}
use Rattle.cbl_base.specs.declared.faults.RunFault.TheVariants.{AlreadyClosed}
use Rattle.cbl_base.specs.declared.ids.VarId.{VarId}
use Rattle.cbl_base.specs.declared.place.Place.{Place}
use Rattle.ls_solver.specs.Closing.{Closes, Stops}
use Rattle.ls_solver.specs.Ids.{id_at}
use Rattle.ls_solver.specs.State as solvers
use Rattle.ls_solver.specs.declared.fault.SolverFault.{SolverFault}
use Rattle.ls_solver.specs.declared.fault.SolverFault.TheVariants as faults
use Rattle.model_values.specs.Fresh.{Fresh}
use Rattle.model_values.specs.declared.failure.Failure.{Failure}
use Rattle.model_view.specs.Naming.{dependencies, named_cycle}
use Rattle.term_model.specs.Wellformed.{HasDefinedSets, IsWellFormed}
use Rattle.comet_meaning.specs.Models.{closed_now}
use Rattle.comet_meaning.specs.Outcome.{Faulted, Cyclic}
use Rattle.comet_meaning.specs.Solvers.{SolverState, fresh_values, cycle_in}
use Rattle.run_values.specs.declared.stop.Stop.{Stop}
use Rattle.run_solvers.specs.Changing.{refused, by_values, by_cycle, closed_one}
use Rattle.run_solvers.specs.Kept.{AreWaiting, IsWhole}
use Rattle.run_solvers.specs.Makes.{Ends}
use Rattle.run_solvers.specs.Refusals.{StopsAs, names_at}
use Rattle.run_solvers.specs.Views.{solver_seen}
use Rattle.run_solvers.proofs.CycleLaws.{finds_named, finds_none}
use Rattle.run_solvers.proofs.SeenLaws.{fresh_seen, cycle_seen}

pub valued : (n : SolverState) (r : Result Fresh Failure) → is_ok r ≡ true → by_values n r ≡ Ok n
valued n (Ok fresh) h = refl
valued n (Err failure) h = absurd (true≢false (sym h))

named_at : (S : solvers.SolverState) (names : List (List ℕ)) (list : List ℕ) → map (λ i. slice_index_or names i []) list ≡ names_at names (map (id_at S) list)
named_at S names [] = refl
named_at S names (i ∷ list) = ap (λ ns. slice_index_or names i [] ∷ ns) (named_at S names list)

module _ (S T : solvers.SolverState) (names : List (List ℕ)) (waiting : Option (List (Option ℤ))) (at : Place) (formed : IsWellFormed S.model) where
  abbrev m : SolverState
  m = solver_seen S names waiting

  abbrev shut : solvers.SolverState
  shut = record S { closed = true }

  by_closed : (b : Bool) → S.closed ≡ b → closed_one at m ≡ (if b then refused at AlreadyClosed else by_cycle at m (cycle_in m))
  by_closed b e = ap (λ b. if b then refused at AlreadyClosed else by_cycle at m (cycle_in m)) e

  open_made : S.closed ≡ false → (o : Option (List ℕ)) → named_cycle (dependencies S.model) ≡ o → closed_one at m ≡ by_cycle at m o
  open_made e o found = by_closed false e ∙ ap (by_cycle at m) (cycle_seen S names waiting ∙ found)

  pub closes_ok : Closes S T (Ok tt) → closed_one at m ≡ Ok (solver_seen T names waiting)
  closes_ok c =
      open_made c.0 None (finds_none S.model formed c.1)
      ∙ valued (closed_now m) (fresh_values (closed_now m)) (ap is_ok (fresh_seen shut names waiting) ∙ c.2)
      ∙ ap (λ (U : solvers.SolverState). Ok (solver_seen U names waiting)) (sym c.3)

  closes_fault : (place : Place) (fault : RunFault) → Stops S T (faults.At place fault) → closed_one at m ≡ Err (Faulted place fault)
  closes_fault place fault c = open_made c.0 None (finds_none S.model formed c.1) ∙ ap (by_values (closed_now m)) (fresh_seen shut names waiting ∙ c.3)

  closes_refused : (fault : RunFault) → Stops S T (faults.Run fault) → closed_one at m ≡ refused at fault
  closes_refused fault c = by_closed true c.0 ∙ ap (refused at) (sym c.1)

  closes_cycle : (ids : Vec VarId Global) → Stops S T (faults.Cyclic ids) → closed_one at m ≡ Err (Cyclic at (names_at names ids.items))
  closes_cycle ids c =
      let list = c.2.0 in
      open_made c.0 (Some list) (finds_named S.model formed list c.2.2)
      ∙ ap (λ (ns : List (List ℕ)). Err (Cyclic at ns)) (named_at S names list ∙ ap (names_at names) (sym c.2.1))

  pub closes_stops : (fault : SolverFault) (stop : Stop) → Stops S T fault → StopsAs at names fault stop → Ends stop (closed_one at m)
  closes_stops (faults.Run fault) stop c told = subst (λ (x : Stop). Ends x (closed_one at m)) (sym told) (closes_refused fault c)
  closes_stops (faults.At place fault) stop c told = subst (λ (x : Stop). Ends x (closed_one at m)) (sym told) (closes_fault place fault c)
  closes_stops (faults.Cyclic ids) stop c (inl told) = subst (λ (x : Stop). Ends x (closed_one at m)) (sym told) (closes_cycle ids c)
  closes_stops (faults.Cyclic ids) stop c (inr told) = subst (λ (x : Stop). Ends x (closed_one at m)) (sym told) tt
  closes_stops faults.NoMemory stop c told = subst (λ (x : Stop). Ends x (closed_one at m)) (sym told) tt

  -- nothing waits in an open solver
  still_waiting : (w : Option (List (Option ℤ))) → S.closed ≡ false → AreWaiting S w → AreWaiting shut w
  still_waiting None e h = tt
  still_waiting (Some ws) e h = absurd (true≢false (sym h.0 ∙ e))

  pub closed_kept : (number : ℕ) → IsWhole number S names waiting → HasDefinedSets S.model → Closes S T (Ok tt) → IsWhole number T names waiting × HasDefinedSets T.model
  closed_kept number whole sets c =
      subst (λ (U : solvers.SolverState). IsWhole number U names waiting × HasDefinedSets U.model) (sym c.3)
      (record { number_ = whole.number_; usable = whole.usable; named = whole.named; waits_ = still_waiting waiting c.0 whole.waits_ }, sets)
