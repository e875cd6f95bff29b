-- What each act on a solver makes of it, or how it halts the run. The solver is asked first whether it is closed, then
-- whether the ids are its own, then whether the variables have definitions, and a closed solver is evaluated as it
-- changes. From the language.
use Rattle.std.specs.Prelude.{ℕ, ℤ, pos, ◌&&◌, ◌||◌, List, [], ◌∷◌, length, Option, Some, None, Result, Ok, Err, int_le, is_some, nat_lt, slice_set, if◌then◌else◌}
use Rattle.cbl_base.specs.declared.ids.VarId.{VarId}
use Rattle.cbl_base.specs.declared.place.Place.{Place}
use Rattle.cbl_base.specs.declared.faults.Limit.TheVariants.{TermNodes, Variables}
use Rattle.cbl_base.specs.declared.faults.RunFault.{RunFault}
use Rattle.cbl_base.specs.declared.faults.RunFault.TheVariants.{AlreadyClosed, DefinedVariable, NotClosed, OutOfRange, TooMany, WrongSolver}
use Rattle.term_model.specs.declared.model.VarDecl.{VarDecl}
use Rattle.term_model.specs.declared.model.Model.{Model}
use Rattle.term_model.specs.declared.posting.Side.{Side}
use Rattle.term_model.specs.declared.posting.Side.TheVariants.{Systems, Objectives}
use Rattle.term_model.specs.declared.term.Term.{Term}
use Rattle.posted_users.specs.KeptRule.{KeptRule}
use Rattle.model_values.specs.Fresh.{Fresh}
use Rattle.model_values.specs.declared.failure.Failure.{Failure}
use Rattle.model_values.specs.declared.wholes.Whole.{Whole}
use Rattle.model_values.specs.declared.wholes.Whole.TheVariants.{Objective}
use Rattle.model_view.specs.Variables.{all_variables}
use Rattle.comet_meaning.specs.Members.{with_system, with_objective}
use Rattle.comet_meaning.specs.Solvers.{SolverState, variable_count, is_defined, fresh_values, cycle_in, names_in}
use Rattle.comet_meaning.specs.Limits.{most_variables}
use Rattle.comet_meaning.specs.Outcome.{Halt, Faulted, Cyclic, Went, Act, halt}
use Rattle.comet_meaning.specs.Models.{closed_now, after_moves, owns, exchanged, term_for, has_room, defined_by}
use Rattle.comet_meaning.specs.Systems.{has_whole, number_for, posted_in, user_node, with_rule}
use Rattle.comet_meaning.specs.Variables.{Beginning, free, defined, first_number, with_variable, next_variable}

abbrev pub Made : Type 0
Made = Result SolverState Halt

abbrev pub refused : Place → RunFault → Made
refused at f = Err (Faulted at f)

-- a closed solver is evaluated as it changes

abbrev pub by_values : SolverState → Result Fresh Failure → Made
by_values m (Ok fresh) = Ok m
by_values m (Err failure) = Err (Faulted failure.place failure.fault)

abbrev pub evaluated : SolverState → Made
evaluated m = if m.closed then by_values m (fresh_values m) else Ok m

-- `close`

abbrev pub by_cycle : Place → SolverState → Option (List ℕ) → Made
by_cycle at m None = evaluated (closed_now m)
by_cycle at m (Some xs) = Err (Cyclic at (names_in m xs))

abbrev pub closed_one : Place → SolverState → Made
closed_one at m = if m.closed then refused at AlreadyClosed else by_cycle at m (cycle_in m)

-- new numbers

abbrev pub moved_one : List (ℕ × ℤ) → SolverState → Option (List ℤ) → Made
moved_one moves m None = evaluated (record m { assignment = after_moves moves m.assignment })
moved_one moves m (Some a) = Ok (record m { waiting = Some (after_moves moves a) })

abbrev pub assigned_one : Place → VarId → ℤ → SolverState → Made
assigned_one at x z m =
    if owns x.solver m x then (if is_defined m x.index then refused at DefinedVariable else moved_one ((x.index, z) ∷ []) m m.waiting)
    else refused at WrongSolver

abbrev pub swapped_one : Place → VarId → VarId → SolverState → Made
swapped_one at x y m =
    if owns x.solver m x && owns x.solver m y
    then (if is_defined m x.index || is_defined m y.index then refused at DefinedVariable else moved_one (exchanged m x.index y.index) m m.waiting)
    else refused at WrongSolver

-- definitions

abbrev pub defined_one : Place → VarId → Term → SolverState → Made
defined_one at x t m =
    if m.closed then refused at AlreadyClosed
    else (if owns x.solver m x && all_variables (owns x.solver m) t
    then (if is_defined m x.index then refused at DefinedVariable
    else (if has_room m (term_for m x.index t) then Ok (defined_by m x t) else refused at (TooMany TermNodes)))
    else refused at WrongSolver)

-- a new variable

abbrev pub begun_one : Place → VarId → Beginning → SolverState → Made
begun_one at x (free z) m = Ok m
begun_one at x (defined t) m = defined_one at x t m

-- it is there, and has no definition yet
abbrev pub declared_one : Place → VarDecl → List ℕ → ℤ → SolverState → Made
declared_one at d name z m =
    if m.closed then refused at AlreadyClosed
    else (if nat_lt (variable_count m) most_variables then Ok (with_variable m d name z)
    else refused at (TooMany Variables))

abbrev pub added_one : Place → ℕ → VarDecl → List ℕ → Beginning → SolverState → Made
added_one at k d name b m =
    if m.closed then refused at AlreadyClosed
    else (if nat_lt (variable_count m) most_variables then begun_one at (next_variable k m) b (with_variable m d name (first_number b))
    else refused at (TooMany Variables))

-- a new system, or a new objective

abbrev pub with_total : Model → Side → Place → Model
with_total M Systems at = with_system M at
with_total M Objectives at = with_objective M at

abbrev pub total_one : Place → Side → SolverState → Made
total_one at side m = if m.closed then refused at AlreadyClosed else Ok (record m { model = with_total m.model side at })

-- one more member of a system or an objective
abbrev pub posted_one : Place → ℕ → Whole → Term → ℤ → SolverState → Made
posted_one at k w t weight m =
    if m.closed then refused at AlreadyClosed
    else (if has_whole m w && all_variables (owns k m) t
    then (if int_le (pos 0) weight
    then (if has_room m (number_for m t) then Ok (posted_in m w t weight) else refused at (TooMany TermNodes))
    else refused at OutOfRange)
    else refused at WrongSolver)

-- the same of a user's constraint over places
abbrev pub posted_user_one : Place → ℕ → Whole → KeptRule → List Term → ℤ → SolverState → Made
posted_user_one at k w rule ts weight m = posted_one at k w (user_node ts m) weight (with_rule rule m)

-- a new objective of one term
abbrev pub objective_one : Place → ℕ → Term → SolverState → Made
objective_one at k t m =
    if m.closed then refused at AlreadyClosed
    else posted_one at k (Objective (length m.model.objectives.items)) t (pos 1) (record m { model = with_total m.model Objectives at })

-- `with`: the outermost one on a closed solver makes what is assigned in it wait

abbrev pub waiting_now : SolverState → Option (List ℤ)
waiting_now m = if is_some m.waiting then m.waiting else Some m.assignment

abbrev pub opened_one : Place → SolverState → Made
opened_one at m = if m.closed then Ok (record m { waiting = waiting_now m }) else refused at NotClosed

-- the end of the outermost `with`, where something waits
abbrev pub committed_one : SolverState → Option (List ℤ) → Option Made
committed_one m None = None
committed_one m (Some a) = Some (evaluated (record m { assignment = a; waiting = None }))

-- A state holds its solvers by number, and an act changes the one with its number.
abbrev pub changed : {A : Type 0} → A → ℕ → Made → Act A
changed x k (Ok m) = λ s. Went x (record s { solvers = slice_set s.solvers k m })
changed x k (Err h) = halt h

abbrev pub changed_where : ℕ → Option Made → Act (Unit {0})
changed_where k None = λ s. Went tt s
changed_where k (Some made) = changed tt k made
