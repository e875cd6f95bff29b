-- The parts of an expression, and their values. Outside terms a variable is read as its value, where it stands: before
-- `close` only a free variable of numbers can be read. From the language.
use Rattle.std.specs.Prelude.{ℕ, ℤ, pos, Bool, true, not, ◌&&◌, ◌||◌, List, [], ◌∷◌, ◌++◌, Option, Some, None, slice_index_or, if◌then◌else◌}
use Rattle.cbl_base.specs.Inputs.{is_number_kind}
use Rattle.cbl_base.specs.declared.input.Input.{Input}
use Rattle.cbl_base.specs.declared.place.Place.{Place}
use Rattle.cbl_base.specs.declared.faults.RunFault.TheVariants.{NotClosed, WrongSolver}
use Rattle.checked_tree.specs.Shape as shapes
use Rattle.checked_tree.specs.Shape.{Shape}
use Rattle.comet_meaning.specs.Values.{Value, Nothing, Variable, Bounds, number_of, truth_of, bounds_of, value_of_input}
use Rattle.term_model.specs.declared.term.Term.{Term}
use Rattle.posted_users.specs.KeptRule.{users_of}
use Rattle.model_values.specs.VarOutcomes.{outcome_of_var}
use Rattle.model_view.specs.Building.{constant}
use Rattle.comet_meaning.specs.Terms.{TermCells, single_of, several_of}
use Rattle.comet_meaning.specs.Solvers.{SolverState, new_solver, has_variable, is_defined, kind_in}
use Rattle.comet_meaning.specs.State.{State}
use Rattle.comet_meaning.specs.Outcome.{Act, ◌>>=◌, give, fault}
use Rattle.comet_meaning.specs.Levels.{Level}

-- parts in a row
abbrev pub items : Shape → List Shape
items (shapes.more x xs) = x ∷ items xs
items x = []

-- the place of an expression
abbrev pub place_of : Shape → Place
place_of (shapes.typed start place kind moving form) = place
place_of x = record { line = 0; col = 0 }

-- where a variable is read: at its name or its index, also in parentheses
abbrev pub read_place : Shape → Place
read_place (shapes.typed start place kind moving (shapes.parentheses e)) = read_place e
read_place e = place_of e

-- variables

-- a solver, by its number
abbrev pub solver_at : State → ℕ → SolverState
solver_at s m = slice_index_or s.solvers m new_solver

-- what a variable of a model comes to; in a closed solver each comes to a value
abbrev pub value_of : Option Input → Value
value_of (Some x) = value_of_input x
value_of None = Nothing

abbrev pub value_now : SolverState → ℕ → Value
value_now m x = value_of (outcome_of_var (users_of m.rules) m.model m.assignment x)

-- whether only a closed solver has a value for it
abbrev pub needs_close : SolverState → ℕ → Bool
needs_close m x = not m.closed && (is_defined m x || not (is_number_kind (kind_in m x)))

unfoldable pub variable_value : Place → ℕ → SolverState → Act Value
variable_value at x m =
    if has_variable m x then (if needs_close m x then fault at NotClosed else give (value_now m x)) else fault at WrongSolver

-- a variable is read as its value; anything else is itself
unfoldable pub read : Place → Value → Act Value
read at (Variable x) = λ s. variable_value at x.index (solver_at s x.solver) s
read at v = give v

-- parts

unfoldable pub value : Level → Shape → Act Value
value l e = l.expr e >>= read (read_place e)

unfoldable pub number : Level → Shape → Act ℤ
number l e = value l e >>= λ v. give (number_of v)

unfoldable pub truth : Level → Shape → Act Bool
truth l e = value l e >>= λ v. give (truth_of v)

unfoldable pub bounds : Level → Shape → Act Bounds
bounds l e = value l e >>= λ v. give (bounds_of v)

-- a condition, which holds where it is left out
unfoldable pub condition : Level → Shape → Act Bool
condition l shapes.left_out = give true
condition l e = truth l e

-- the values of parts from the left, behind those before
unfoldable pub values : Level → List Shape → List Value → Act (List Value)
values l [] vs = give vs
values l (e ∷ es) vs = value l e >>= λ v. values l es (vs ++ v ∷ [])

-- parts of terms

unfoldable pub term : Level → Shape → Act Term
term l e = l.term e >>= λ t. give (single_of t)

unfoldable pub terms : Level → Shape → Act TermCells
terms l e = l.term e >>= λ t. give (several_of t)

-- the terms of parts from the left, behind those before
unfoldable pub each_term : Level → List Shape → List Term → Act (List Term)
each_term l [] ts = give ts
each_term l (e ∷ es) ts = term l e >>= λ t. each_term l es (ts ++ t ∷ [])

-- whether a part of a term holds incremental variables
abbrev pub is_moving : Shape → Bool
is_moving (shapes.typed start place kind moving form) = moving
is_moving x = not true

-- a truth value without incremental variables is a constraint, which is violated once where it is false
abbrev pub broken : Bool → Term
broken b = constant (if b then pos 0 else pos 1)

-- a part of a constraint
unfoldable pub constraint : Level → Shape → Act Term
constraint l e = if is_moving e then term l e else (truth l e >>= λ b. give (broken b))
