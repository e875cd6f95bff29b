-- Solvers: what is asked of them when the operands of a statement have their values. After `close` no definition comes; a
-- variable has one definition, and one that has it is assigned nothing; each change of a closed solver evaluates all
-- afresh. While a `with` is open on a solver, what is assigned waits for its end. From the language.
use Rattle.std.specs.Prelude.{ℕ, ℤ, pos, Bool, true, false, not, ◌&&◌, List, [], ◌∷◌, ◌++◌, fold, length, Option, Some, None, nat_eq, nat_le, slice_get, slice_index_or, slice_set, if◌then◌else◌}
use Rattle.cbl_base.specs.Inputs.{InputKind, number_kind, set_kind}
use Rattle.cbl_base.specs.declared.ids.VarId.{VarId}
use Rattle.cbl_base.specs.declared.place.Place.{Place}
use Rattle.cbl_base.specs.declared.faults.Limit.TheVariants.{TermNodes}
use Rattle.cbl_base.specs.declared.faults.RunFault.TheVariants.{AlreadyClosed, DefinedVariable, TooMany, WrongSolver}
use Rattle.term_model.specs.Kinds.{kinds_in, kind_of_term}
use Rattle.term_model.specs.Subterms.{distinct_subterms, subterms, with_subterm}
use Rattle.term_model.specs.declared.model.VarDecl.{VarDecl}
use Rattle.term_model.specs.declared.term.Term.{Term}
use Rattle.model_view.specs.Building.{constant, constant_set, with_definition}
use Rattle.model_view.specs.Variables.{all_variables}
use Rattle.comet_meaning.specs.Values.{Value, Nothing, Range, Solver, Variable, Bounds}
use Rattle.comet_meaning.specs.Solvers.{SolverState, new_solver, has_variable, is_defined, kind_in, fresh_values, cycle_in, names_in}
use Rattle.comet_meaning.specs.Limits.{most_terms}
use Rattle.comet_meaning.specs.Outcome.{Went, Cyclic, Act, ◌>>=◌, give, halt, give_or_met, unless}
use Rattle.comet_meaning.specs.Parts.{solver_at}

-- a new solver, which gets the next number
unfoldable pub make_solver : Act Value
make_solver = λ s. Went (Solver (length s.solvers)) (record s { solvers = s.solvers ++ new_solver ∷ [] })

abbrev pub put_solver : ℕ → SolverState → Act (Unit {0})
put_solver k m = λ s. Went tt (record s { solvers = slice_set s.solvers k m })

-- a closed solver is evaluated as it changes, and its first fault halts the run
unfoldable pub put_evaluated : ℕ → SolverState → Act (Unit {0})
put_evaluated k m = if m.closed then (give_or_met (fresh_values m) >>= λ fresh. put_solver k m) else put_solver k m

-- `close`: a cycle of definitions halts the run before any is evaluated

abbrev pub closed_now : SolverState → SolverState
closed_now m = record m { closed = true }

abbrev pub without_cycle : Place → SolverState → Option (List ℕ) → Act (Unit {0})
without_cycle at m None = give tt
without_cycle at m (Some xs) = halt (Cyclic at (names_in m xs))

unfoldable pub closing : Place → ℕ → SolverState → Act Value
closing at k m = do
  _ ← unless (not m.closed) at AlreadyClosed
  _ ← without_cycle at m (cycle_in m)
  _ ← put_evaluated k (closed_now m)
  give Nothing

unfoldable pub close : Place → ℕ → Act Value
close at k = λ s. closing at k (solver_at s k) s

-- new numbers of variables, of which the last one counts

abbrev pub after_moves : List (ℕ × ℤ) → List ℤ → List ℤ
after_moves moves a = fold (λ b move. slice_set b move.0 move.1) a moves

abbrev pub moving : ℕ → List (ℕ × ℤ) → SolverState → Option (List ℤ) → Act (Unit {0})
moving k moves m None = put_evaluated k (record m { assignment = after_moves moves m.assignment })
moving k moves m (Some a) = put_solver k (record m { waiting = Some (after_moves moves a) })

-- they are committed at once, or wait where a `with` is open
unfoldable pub move : ℕ → List (ℕ × ℤ) → Act (Unit {0})
move k moves = λ s. moving k moves (solver_at s k) (solver_at s k).waiting s

-- whether it is a variable of the solver with this number
abbrev pub owns : ℕ → SolverState → VarId → Bool
owns k m x = nat_eq x.solver k && has_variable m x.index

-- `x := e`

unfoldable pub assigning : Place → VarId → ℤ → SolverState → Act (Unit {0})
assigning at x z m = do
  _ ← unless (owns x.solver m x) at WrongSolver
  _ ← unless (not (is_defined m x.index)) at DefinedVariable
  move x.solver ((x.index, z) ∷ [])

unfoldable pub assign : Place → VarId → ℤ → Act (Unit {0})
assign at x z = λ s. assigning at x z (solver_at s x.solver) s

-- `x :=: y`: each gets the number that the other has now

abbrev pub number_now : SolverState → ℕ → ℤ
number_now m x = slice_index_or m.assignment x (pos 0)

abbrev pub exchanged : SolverState → ℕ → ℕ → List (ℕ × ℤ)
exchanged m x y = (x, number_now m y) ∷ (y, number_now m x) ∷ []

unfoldable pub swapping : Place → VarId → VarId → SolverState → Act (Unit {0})
swapping at x y m = do
  _ ← unless (owns x.solver m x && owns x.solver m y) at WrongSolver
  _ ← unless (not (is_defined m x.index) && not (is_defined m y.index)) at DefinedVariable
  move x.solver (exchanged m x.index y.index)

unfoldable pub swap : Place → VarId → VarId → Act (Unit {0})
swap at x y = λ s. swapping at x y (solver_at s x.solver) s

-- `x <- e`

-- a checked program gives a variable a term of its kind; any other one stands for 0, or for the empty set
abbrev pub same_kind : InputKind → Option InputKind → Bool
same_kind number_kind (Some number_kind) = true
same_kind set_kind (Some set_kind) = true
same_kind k other = false

abbrev pub nothing_of : InputKind → Term
nothing_of number_kind = constant (pos 0)
nothing_of set_kind = constant_set []

abbrev pub term_for : SolverState → ℕ → Term → Term
term_for m x t = if same_kind (kind_in m x) (kind_of_term (kinds_in m.model.vars.items) t) then t else nothing_of (kind_in m x)

abbrev pub defined_by : SolverState → VarId → Term → SolverState
defined_by m x t = record m { model = with_definition m.model x (term_for m x.index t) }

-- whether a model has room for the distinct subterms of a term that aren't among its own
abbrev pub has_room : SolverState → Term → Bool
has_room m t = nat_le (length (fold with_subterm (distinct_subterms m.model) (subterms t))) most_terms

unfoldable pub defining : Place → VarId → Term → SolverState → Act (Unit {0})
defining at x t m = do
  _ ← unless (not m.closed) at AlreadyClosed
  _ ← unless (owns x.solver m x && all_variables (owns x.solver m) t) at WrongSolver
  _ ← unless (not (is_defined m x.index)) at DefinedVariable
  _ ← unless (has_room m (term_for m x.index t)) at (TooMany TermNodes)
  put_solver x.solver (defined_by m x t)

unfoldable pub define : Place → VarId → Term → Act (Unit {0})
define at x t = λ s. defining at x t (solver_at s x.solver) s

-- `x.getDomain()`

abbrev pub domain_in : Option VarDecl → Bounds
domain_in None = record { low = pos 0; up = pos 0 }
domain_in (Some d) = record { low = d.low; up = d.up }

unfoldable pub domain_at : Place → VarId → SolverState → Act Value
domain_at at x m = unless (owns x.solver m x) at WrongSolver >>= λ _. give (Range (domain_in (slice_get m.model.vars.items x.index)))

unfoldable pub domain_of : Place → Value → Act Value
domain_of at (Variable x) = λ s. domain_at at x (solver_at s x.solver) s
domain_of at v = give Nothing
