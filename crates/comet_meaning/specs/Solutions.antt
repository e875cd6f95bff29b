-- Solutions: a solution keeps the numbers of the free variables of a closed solver, and `restore` commits them at once.
-- While a `with` is open on the solver it keeps those of its start, and a `restore` waits for its end. From the language.
use Rattle.std.specs.Prelude.{ℕ, ℤ, Bool, not, List, [], ◌∷◌, ◌++◌, length, map, filter, zip, Option, Some, None, nat_eq, slice_get}
use Rattle.std.specs.List.{range_with_len}
use Rattle.cbl_base.specs.declared.place.Place.{Place}
use Rattle.cbl_base.specs.declared.faults.RunFault.TheVariants.{NotClosed, WrongSolver}
use Rattle.comet_meaning.specs.Values.{Value, Nothing, Solution}
use Rattle.comet_meaning.specs.Solvers.{SolverState, variable_count, is_defined}
use Rattle.comet_meaning.specs.Search.{Snapshot, Search}
use Rattle.comet_meaning.specs.Outcome.{Went, Act, ◌>>=◌, give, unless}
use Rattle.comet_meaning.specs.Parts.{solver_at}
use Rattle.comet_meaning.specs.Models.{number_now, move}
use Rattle.comet_meaning.specs.Changes.{noticed}

-- the free variables, in order of declaration, and their numbers; a set variable has a definition from the start

abbrev pub is_free : SolverState → ℕ → Bool
is_free m x = not (is_defined m x)

abbrev pub free_variables : SolverState → List ℕ
free_variables m = filter (is_free m) (range_with_len 0 (variable_count m))

abbrev pub free_numbers : SolverState → List ℤ
free_numbers m = map (number_now m) (free_variables m)

-- a new solution, which gets the next number

abbrev pub with_solution : Snapshot → Search → Search
with_solution x search = record search { solutions = search.solutions ++ x ∷ [] }

abbrev pub add_solution : Snapshot → Act Value
add_solution x = λ s. Went (Solution (length s.search.solutions)) (record s { search = with_solution x s.search })

abbrev pub keeping : Place → ℕ → SolverState → Act Value
keeping at k m = unless m.closed at NotClosed >>= λ _. add_solution (record { solver = k; values = free_numbers m })

unfoldable pub make_solution : Place → ℕ → Act Value
make_solution at k = λ s. keeping at k (solver_at s k) s

-- `restore`: the solver of a solution is closed, and has as many free variables as when the solution was made

unfoldable pub restoring : Place → ℕ → List ℤ → SolverState → Act (Unit {0})
restoring at k values m = do
  _ ← unless m.closed at NotClosed
  _ ← unless (nat_eq (length values) (length (free_variables m))) at WrongSolver
  move k (zip (free_variables m) values)

unfoldable pub restore_in : Place → Snapshot → Act (Unit {0})
restore_in at x = λ s. restoring at x.solver x.values (solver_at s x.solver) s

abbrev pub restored : Place → Option Snapshot → Act Value
restored at None = give Nothing
restored at (Some x) = noticed x.solver (restore_in at x) >>= λ _. give Nothing

unfoldable pub restore : Place → Value → Act Value
restore at (Solution n) = λ s. restored at (slice_get s.search.solutions n) s
restore at v = give Nothing
