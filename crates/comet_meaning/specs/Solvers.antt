-- A solver is its model, an assignment, and whether it is closed; the rules of the users' constraints that were posted in
-- it, by their numbers; and beside these the names of its variables, and what waits for the end of an open `with`. Once it
-- is closed the values of its variables are those of the model under the assignment, evaluated afresh. From the book: a
-- defined variable always equals its expression.
use Rattle.std.specs.Prelude.{ℕ, ℤ, Bool, false, List, [], length, map, Option, None, Some, Result, is_some, nat_lt, slice_index_or}
use Rattle.cbl_base.specs.Inputs.{InputKind, number_kind}
use Rattle.term_model.specs.Definitions.{definition_of}
use Rattle.term_model.specs.Kinds.{kinds_in}
use Rattle.term_model.specs.declared.model.Model.{Model}
use Rattle.posted_users.specs.KeptRule.{KeptRule, users_of}
use Rattle.model_values.specs.Fresh.{Fresh, fresh_of}
use Rattle.model_values.specs.declared.failure.Failure.{Failure}
use Rattle.model_view.specs.Building.{empty_model}
use Rattle.model_view.specs.Naming.{named_cycle, dependencies}

-- The assignment has a number for each variable; that of a defined one isn't looked at.
pub record SolverState : Type 0 where
  pub model : Model
  pub assignment : List ℤ
  pub closed : Bool
  -- those of the users' constraints, in order of posting
  pub rules : List KeptRule
  pub names : List (List ℕ)
  -- while a `with` is open, the assignment that its end commits
  pub waiting : Option (List ℤ)

abbrev pub new_solver : SolverState
new_solver = record { model = empty_model; assignment = []; closed = false; rules = []; names = []; waiting = None }

abbrev pub variable_count : SolverState → ℕ
variable_count m = length m.model.vars.items

abbrev pub has_variable : SolverState → ℕ → Bool
has_variable m x = nat_lt x (variable_count m)

abbrev pub is_defined : SolverState → ℕ → Bool
is_defined m x = is_some (definition_of m.model x)

-- the kind of a variable, that of numbers where there is none
abbrev pub kind_or_number : Option InputKind → InputKind
kind_or_number (Some k) = k
kind_or_number None = number_kind

abbrev pub kind_in : SolverState → ℕ → InputKind
kind_in m x = kind_or_number (kinds_in m.model.vars.items x)

-- the values of all variables, or the fault of the least numbered operation that fails, with its place
unfoldable pub fresh_values : SolverState → Result Fresh Failure
fresh_values m = fresh_of (users_of m.rules) m.model m.assignment

-- the cycle that is named, if definitions lead from a variable back to it, and the names of its variables
abbrev pub cycle_in : SolverState → Option (List ℕ)
cycle_in m = named_cycle (dependencies m.model)

abbrev pub names_in : SolverState → List ℕ → List (List ℕ)
names_in m xs = map (λ x. slice_index_or m.names x []) xs
