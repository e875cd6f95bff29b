-- The parts that the code evaluates in functions of their own go onward.
use Rattle.std.proofs.Common.{◌≡◌, sym, subst, is_some, ℕ, ℤ, Bool, true, false, List, Option, Some, None}
use Rattle.cbl_base.specs.declared.ids.VarId.{VarId}
use Rattle.cbl_base.specs.declared.place.Place.{Place}
use Rattle.checked_tree.specs.declared.expressions.Slot.{Slot}
use Rattle.checked_tree.specs.Actions.{Varying}
use Rattle.checked_tree.specs.Tasks.{Work}
use Rattle.term_model.specs.declared.model.VarDecl.{VarDecl}
use Rattle.comet_meaning.specs.Values.{Value, Bounds}
use Rattle.comet_meaning.specs.Levels.{Level, Flow}
use Rattle.comet_meaning.specs.Declarations.{Dimension}
use Rattle.comet_meaning.specs.Variables.{Beginning}
use Rattle.comet_meaning.specs.Onward.{GoesOn, IsOnward, left_by}
use Rattle.comet_meaning.specs.Blocks.{together_in}
use Rattle.comet_meaning.specs.Outcome.{Act, ◌>>=◌, give}
use Rattle.comet_meaning.specs.Events.{run_queue}
use Rattle.comet_meaning.specs.Parts.{solver_at}
use Rattle.comet_meaning.specs.Solvers.{SolverState}
use Rattle.comet_meaning.specs.State.{State, left}
use Rattle.cbl_base.specs.declared.faults.RunFault.TheVariants.{NotClosed}
use Rattle.comet_meaning.proofs.GoingOn.{goes_then, goes_give, goes_if, goes_at, goes_unless, goes_charge, goes_extent, goes_cell_of, goes_found_at, goes_new_variables, goes_put}
use Rattle.comet_meaning.proofs.GoingEvents.{goes_noticed, goes_run_queue}
use Rattle.comet_meaning.proofs.GoingParts.{LevelGoesOn, goes_read_array, goes_taken_whole}
use Rattle.comet_meaning.proofs.GoingStatements.{goes_element}
use Rattle.comet_meaning.proofs.GoingVariables.{goes_variable_in, goes_next_variable, goes_listed_variable, goes_commit_waiting}
use Rattle.run_objects.specs.OfRunState.Acts.{indexed, indexed_twice, index_written, cell_written, counted, numbers_read}
use Rattle.run_steps.specs.Operands.{added_variable, added_cell, variable_cell, exactly, made_variables, closed_block}
use Rattle.run_objects.specs.WithBlocks.{block}
use Rattle.run_objects.proofs.WithLaws.{together_law}
use Rattle.run_objects.specs.OfRunSolvers.Opening.{opened, opening}
use Rattle.comet_meaning.proofs.GoingModels.{goes_put_solver}

pub goes_indexed : (at : Place) (v : Value) (z : ℤ) → GoesOn (indexed at v z)
goes_indexed at v z = goes_then (goes_extent v) (λ b. goes_then (goes_found_at at _) (λ k. goes_cell_of v k))

pub goes_indexed_twice : (at : Place) (v : Value) (y z : ℤ) → GoesOn (indexed_twice at v y z)
goes_indexed_twice at v y z = goes_then (goes_extent v) (λ b. goes_then (goes_found_at at _) (λ k. goes_cell_of v k))

pub goes_index_written : (at : Place) (v : Value) (z : ℤ) → GoesOn (index_written at v z)
goes_index_written at v z = goes_then (goes_extent v) (λ b. goes_then (goes_found_at at _) (λ k. goes_element v k))

pub goes_cell_written : (at : Place) (v : Value) (y z : ℤ) → GoesOn (cell_written at v y z)
goes_cell_written at v y z = goes_then (goes_extent v) (λ b. goes_then (goes_found_at at _) (λ k. goes_element v k))

pub goes_counted : (at place : Place) (v : Value) (z : ℤ) → GoesOn (counted at place v z)
goes_counted at place v z = goes_then (goes_charge 1 at) (λ _. goes_then (goes_taken_whole place v) (λ xs. goes_give))

-- declarations of variables

pub goes_added_variable : (at : Place) (v : Varying) (d : Bounds) (b : Beginning) → GoesOn (added_variable at v d b)
goes_added_variable at v d b = goes_then (goes_variable_in at v.solver _ v.name b) (λ x. goes_put _ _)

pub goes_added_cell : (at : Place) (v : Varying) (d : VarDecl) (is : List ℤ) (xs : List VarId) (b : Beginning) → GoesOn (added_cell at v d is xs b)
goes_added_cell at v d is xs b = goes_then (goes_variable_in at v.solver d _ b) (λ x. goes_give)

pub goes_variable_cell : (l : Level) → LevelGoesOn l → (at : Place) (v : Varying) (d : VarDecl) (numbers : Option (List ℤ)) (is : List ℤ) (xs : List VarId) → GoesOn (variable_cell l at v d numbers is xs)
goes_variable_cell l h at v d None is xs = goes_next_variable l h at v d is xs
goes_variable_cell l h at v d (Some numbers) is xs = goes_listed_variable at v d numbers is xs

pub goes_numbers_read : (at : Place) (v : Value) → GoesOn (numbers_read at v)
goes_numbers_read at v = goes_then (goes_read_array at v) (λ c. goes_give)

pub goes_exactly : (at place : Place) (count : ℕ) (v : Value) → GoesOn (exactly at place count v)
goes_exactly at place count v = goes_then (goes_numbers_read place v) (λ xs. goes_then (goes_unless _ at _) (λ _. goes_give))

pub goes_made_variables : (slot : Slot) (ds : List Dimension) (xs : List VarId) → GoesOn (made_variables slot ds xs)
goes_made_variables slot ds xs = goes_then (goes_new_variables _) (λ a. goes_put slot a)

-- blocks

pub goes_closed_block : (k : ℕ) (flow : Flow) → GoesOn (closed_block k flow)
goes_closed_block k flow = goes_then (goes_noticed k (goes_commit_waiting k)) (λ _. goes_give)

pub goes_queue_behind : (l : Level) → LevelGoesOn l → (at : Place) (flow : Flow) → GoesOn (run_queue l at >>= λ _. give flow)
goes_queue_behind l h at flow = goes_then (goes_run_queue l h at) (λ _. goes_give)

pub goes_block : (l : Level) → LevelGoesOn l → (at : Place) (k : ℕ) (body : Work) (outermost : Bool) → GoesOn (block l at k body outermost)
goes_block l h at k body true = goes_then (goes_then (h.stmt body) (λ flow. goes_closed_block k flow)) (λ flow. goes_queue_behind l h at flow)
goes_block l h at k body false = h.stmt body

goes_opening : (k : ℕ) (m : SolverState) → GoesOn (opening k m)
goes_opening k m = goes_if (is_some m.waiting) goes_give (goes_then (goes_put_solver k (record m { waiting = Some m.assignment })) (λ _. goes_give {x = true}))

pub goes_opened : (at : Place) (k : ℕ) → GoesOn (opened at k)
goes_opened at k = goes_at (λ s. goes_then (goes_unless (solver_at s k).closed at NotClosed) (λ _. goes_opening k (solver_at s k)))

pub goes_together_in : (l : Level) → LevelGoesOn l → (at : Place) (k : ℕ) (body : Work) → GoesOn (together_in l at k body)
goes_together_in l h at k body = goes_same (λ s. together_law l at k body s) (goes_then (goes_opened at k) (λ b. goes_block l h at k body b)) where
  goes_same : {m n : Act Flow} → ((s : State) → m s ≡ n s) → GoesOn n → GoesOn m
  goes_same e g = record { from = λ s. subst (λ o. IsOnward (left s) (left_by o)) (sym (e s)) (g.from s) }
