-- Declarations of variables, and `with`, go onward.
use Rattle.std.proofs.Common.{ℕ, ℤ, List, [], ◌∷◌, Option, Some, None, is_some, nat_lt, not}
use Rattle.cbl_base.specs.declared.faults.Limit.TheVariants.{Variables}
use Rattle.cbl_base.specs.declared.faults.RunFault.TheVariants.{AlreadyClosed, NotClosed, TooMany}
use Rattle.cbl_base.specs.declared.ids.VarId.{VarId}
use Rattle.cbl_base.specs.declared.place.Place.{Place}
use Rattle.checked_tree.specs.declared.expressions.Slot.{Slot}
use Rattle.checked_tree.specs.declared.statements.Way.{Way}
use Rattle.checked_tree.specs.declared.statements.Way.TheVariants as ways
use Rattle.checked_tree.specs.Shape.{Shape, Seen, whole}
use Rattle.checked_tree.specs.Actions.{Started, Sized, Varying}
use Rattle.checked_tree.specs.Tasks.{Work}
use Rattle.term_model.specs.declared.model.VarDecl.{VarDecl}
use Rattle.term_model.specs.declared.model.VarKind.{VarKind}
use Rattle.comet_meaning.specs.Values.{solver_of}
use Rattle.comet_meaning.specs.Solvers.{SolverState, variable_count}
use Rattle.comet_meaning.specs.Limits.{most_variables}
use Rattle.comet_meaning.specs.Levels.{Level}
use Rattle.comet_meaning.specs.Parts.{solver_at}
use Rattle.comet_meaning.specs.Declarations.{Dimension}
use Rattle.comet_meaning.specs.Variables.{Beginning, free, defined, first_number, with_variable, next_variable, domain_form, started_form, beginning_form, begin, adding, new_variable, variable_in, single_form, next_cell, listed_cell, listed_cells, started_cells, cells_form, several_form, declared_form, variable_form}
use Rattle.comet_meaning.specs.Blocks.{committed, commit_waiting, outermost, within_solver, together_in, together_form}
use Rattle.comet_meaning.specs.Onward.{GoesOn}
use Rattle.comet_meaning.proofs.GoingOn.{goes_then, goes_give, goes_if, goes_unless, goes_charge, goes_at, goes_look, goes_put, goes_new_variables}
use Rattle.comet_meaning.proofs.GoingParts.{LevelGoesOn, goes_value, goes_number, goes_bounds, goes_one_term, goes_read_array}
use Rattle.comet_meaning.proofs.GoingModels.{goes_put_solver, goes_put_evaluated, goes_defining}
use Rattle.comet_meaning.proofs.GoingEvents.{goes_noticed, goes_run_queue}
use Rattle.comet_meaning.proofs.GoingDeclarations.{goes_dimensions, goes_every_cell}

pub goes_domain : (l : Level) → LevelGoesOn l → (d : Option Seen) → GoesOn (domain_form l d)
unfolding domain_form
goes_domain l h None = goes_give
goes_domain l h (Some e) = goes_bounds l h (whole e)

pub goes_started : (l : Level) → LevelGoesOn l → (k : VarKind) (w : Way) (e : Shape) → GoesOn (started_form l k w e)
unfolding started_form
goes_started l h k ways.Define e = goes_then (goes_one_term l h e) (λ t. goes_give)
goes_started l h k w e = goes_then (goes_number l h e) (λ z. goes_give)

pub goes_beginning : (l : Level) → LevelGoesOn l → (k : VarKind) (x : Option Started) → GoesOn (beginning_form l k x)
unfolding beginning_form
goes_beginning l h k None = goes_give
goes_beginning l h k (Some x) = goes_started l h k x.way (whole x.value)

goes_begin : (at : Place) (x : VarId) (b : Beginning) (m : SolverState) → GoesOn (begin at x b m)
goes_begin at x (free z) m = goes_put_solver x.solver m
goes_begin at x (defined t) m = goes_defining at x t m

goes_adding_variable : (at : Place) (k : ℕ) (d : VarDecl) (name : List ℕ) (b : Beginning) (m : SolverState) → GoesOn (adding at k d name b m)
unfolding adding
goes_adding_variable at k d name b m =
    goes_then (goes_unless (not m.closed) at AlreadyClosed) (λ _.
    goes_then (goes_unless (nat_lt (variable_count m) most_variables) at (TooMany Variables)) (λ _.
    goes_then (goes_begin at (next_variable k m) b (with_variable m d name (first_number b))) (λ _. goes_give {x = next_variable k m})))

pub goes_new_variable : (at : Place) (k : ℕ) (d : VarDecl) (name : List ℕ) (b : Beginning) → GoesOn (new_variable at k d name b)
unfolding new_variable
goes_new_variable at k d name b = goes_at (λ s. goes_adding_variable at k d name b _)

pub goes_variable_in : (at : Place) (slot : Slot) (d : VarDecl) (name : List ℕ) (b : Beginning) → GoesOn (variable_in at slot d name b)
unfolding variable_in
goes_variable_in at slot d name b = goes_then (goes_look slot) (λ m. goes_new_variable at _ d name b)

pub goes_single_variable : (l : Level) → LevelGoesOn l → (at : Place) (v : Varying) → GoesOn (single_form l at v)
unfolding single_form
goes_single_variable l h at v =
    goes_then (goes_domain l h v.domain) (λ d. goes_then (goes_beginning l h _ v.start) (λ b. goes_then (goes_variable_in at v.solver _ _ b) (λ x. goes_put v.slot _)))

pub goes_next_variable : (l : Level) → LevelGoesOn l → (at : Place) (v : Varying) (d : VarDecl) (is : List ℤ) (xs : List VarId) → GoesOn (next_cell l at v d is xs)
unfolding next_cell
goes_next_variable l h at v d is xs =
    goes_then (goes_charge 1 at) (λ _. goes_then (goes_beginning l h _ v.start) (λ b. goes_then (goes_variable_in at v.solver d _ b) (λ x. goes_give)))

pub goes_listed_variable : (at : Place) (v : Varying) (d : VarDecl) (numbers is : List ℤ) (xs : List VarId) → GoesOn (listed_cell at v d numbers is xs)
unfolding listed_cell
goes_listed_variable at v d numbers is xs =
    goes_then (goes_charge 1 at) (λ _. goes_then (goes_variable_in at v.solver d _ _) (λ x. goes_give))

pub goes_listed_variables : (l : Level) → LevelGoesOn l → (at : Place) (v : Varying) (d : VarDecl) (ds : List Dimension) (e : Seen) → GoesOn (listed_cells l at v d ds e)
unfolding listed_cells
goes_listed_variables l h at v d ds e =
    goes_then (goes_value l h (whole e)) (λ w. goes_then (goes_read_array e.place w) (λ c. goes_then (goes_unless _ at _) (λ _. goes_every_cell _ ds (λ is xs. goes_listed_variable at v d c.numbers is xs))))

goes_started_variables : (l : Level) → LevelGoesOn l → (at : Place) (v : Varying) (d : VarDecl) (ds : List Dimension) (w : Way) (e : Seen) → GoesOn (started_cells l at v d ds w e)
goes_started_variables l h at v d ds ways.List e = goes_listed_variables l h at v d ds e
goes_started_variables l h at v d ds w e = goes_every_cell _ ds (λ is xs. goes_next_variable l h at v d is xs)

pub goes_variable_cells : (l : Level) → LevelGoesOn l → (at : Place) (v : Varying) (d : VarDecl) (ds : List Dimension) (x : Option Started) → GoesOn (cells_form l at v d ds x)
goes_variable_cells l h at v d ds None = goes_every_cell _ ds (λ is xs. goes_next_variable l h at v d is xs)
goes_variable_cells l h at v d ds (Some x) = goes_started_variables l h at v d ds x.way x.value

pub goes_several_variables : (l : Level) → LevelGoesOn l → (at : Place) (v : Varying) → GoesOn (several_form l at v)
unfolding several_form
goes_several_variables l h at v =
    goes_then (goes_dimensions l h v.dimensions []) (λ ds. goes_then (goes_unless _ at _) (λ _. goes_then (goes_domain l h v.domain) (λ d.
    goes_then (goes_variable_cells l h at v _ ds v.start) (λ xs. goes_then (goes_new_variables _) (λ a. goes_put v.slot a)))))

goes_declared : (l : Level) → LevelGoesOn l → (at : Place) (v : Varying) (ds : List Sized) → GoesOn (declared_form l at v ds)
goes_declared l h at v [] = goes_single_variable l h at v
goes_declared l h at v (d ∷ ds) = goes_several_variables l h at v

pub goes_variable : (l : Level) → LevelGoesOn l → (at : Place) (v : Varying) → GoesOn (variable_form l at v)
unfolding variable_form
goes_variable l h at v = goes_declared l h at v v.dimensions

-- `with`

goes_committed : (k : ℕ) (m : SolverState) (waiting : Option (List ℤ)) → GoesOn (committed k m waiting)
goes_committed k m None = goes_give
goes_committed k m (Some a) = goes_put_evaluated k _

pub goes_commit_waiting : (k : ℕ) → GoesOn (commit_waiting k)
unfolding commit_waiting
goes_commit_waiting k = goes_at (λ s. goes_committed k (solver_at s k) _)

pub goes_outermost : (l : Level) → LevelGoesOn l → (at : Place) (k : ℕ) (body : Work) (m : SolverState) → GoesOn (outermost l at k body m)
unfolding outermost
goes_outermost l h at k body m =
    goes_then (goes_put_solver k _) (λ _. goes_then (h.stmt body) (λ flow.
    goes_then (goes_noticed k (goes_commit_waiting k)) (λ _. goes_then (goes_run_queue l h at) (λ _. goes_give {x = flow}))))

goes_within_solver : (l : Level) → LevelGoesOn l → (at : Place) (k : ℕ) (body : Work) (m : SolverState) → GoesOn (within_solver l at k body m)
unfolding within_solver
goes_within_solver l h at k body m =
    goes_then (goes_unless m.closed at NotClosed) (λ _. goes_if (is_some m.waiting) (h.stmt body) (goes_outermost l h at k body m))

goes_together_in : (l : Level) → LevelGoesOn l → (at : Place) (k : ℕ) (body : Work) → GoesOn (together_in l at k body)
goes_together_in l h at k body = goes_at (λ s. goes_within_solver l h at k body _)

pub goes_together : (l : Level) → LevelGoesOn l → (at : Place) (slot : Slot) (body : Work) → GoesOn (together_form l at slot body)
unfolding together_form
goes_together l h at slot body = goes_then (goes_look slot) (λ v. goes_together_in l h at (solver_of v) body)
