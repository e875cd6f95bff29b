-- Constraint systems and objectives: what is asked of them when the operands have their values. Before `close` nothing is
-- read of them, and after it none comes and none gets a member. All values are those of the model under the assignment,
-- evaluated afresh; while a `with` is open that is the assignment at its start. From the language.
use Rattle.std.specs.Prelude.{ℕ, ℤ, pos, Bool, not, ◌&&◌, List, [], ◌∷◌, ◌++◌, length, Option, Some, None, Result, Ok, Err, int_le, nat_lt, if◌then◌else◌}
use Rattle.std.specs.List.{list_all}
use Rattle.cbl_base.specs.Inputs.{number_kind}
use Rattle.cbl_base.specs.declared.ids.VarId.{VarId}
use Rattle.cbl_base.specs.declared.place.Place.{Place}
use Rattle.cbl_base.specs.declared.faults.Limit.TheVariants.{TermNodes}
use Rattle.cbl_operations.specs.declared.op.Op.TheVariants as ops
use Rattle.cbl_base.specs.declared.faults.RunFault.TheVariants.{AlreadyClosed, NotClosed, OutOfRange, TooMany, WrongSolver}
use Rattle.term_model.specs.Kinds.{kinds_in, kind_of_term}
use Rattle.term_model.specs.declared.term.Term.{Term}
use Rattle.term_model.specs.declared.term.Term.TheOpen.{Term-F}
use Rattle.term_model.specs.declared.term.Term.TheFolds.{fold-Term}
use Rattle.posted_users.specs.KeptRule.{KeptRule, users_of}
use Rattle.model_values.specs.Delta.{value_of, delta_of}
use Rattle.violation_shares.specs.VariableViolations.{variable_violations_of}
use Rattle.model_values.specs.declared.asked.AskStop.{AskStop}
use Rattle.model_values.specs.declared.asked.AskStop.TheVariants.{Run, Fault, NoMemory}
use Rattle.model_values.specs.declared.deltas.Move.{Move}
use Rattle.model_values.specs.declared.deltas.Move.TheVariants.{Assign, Swap}
use Rattle.model_values.specs.declared.wholes.Whole.{Whole}
use Rattle.model_values.specs.declared.wholes.Whole.TheVariants as wholes
use Rattle.model_view.specs.Building.{constant, node}
use Rattle.model_view.specs.Variables.{all_variables}
use Rattle.comet_meaning.specs.Values.{Value, Nothing, Number, Variable, System, Objective, number_of}
use Rattle.comet_meaning.specs.Solvers.{SolverState}
use Rattle.comet_meaning.specs.Outcome.{Act, ◌>>=◌, give, fault, give_or_met, unless}
use Rattle.comet_meaning.specs.Parts.{solver_at}
use Rattle.comet_meaning.specs.Members.{with_system, with_objective, with_member}
use Rattle.comet_meaning.specs.Models.{put_solver, owns, same_kind, has_room}

-- what is done with a system or an objective, by its solver; of any other value nothing is
abbrev pub of_whole : (ℕ → Whole → Act Value) → Value → Act Value
of_whole f (System k i) = f k (wholes.System i)
of_whole f (Objective k i) = f k (wholes.Objective i)
of_whole f v = give Nothing

abbrev pub has_whole : SolverState → Whole → Bool
has_whole m (wholes.System i) = nat_lt i (length m.model.systems.items)
has_whole m (wholes.Objective i) = nat_lt i (length m.model.objectives.items)

-- a new system, and a new sum, which get the next number of their solver

unfoldable pub adding_system : Place → ℕ → SolverState → Act Value
adding_system at k m = do
  _ ← unless (not m.closed) at AlreadyClosed
  _ ← put_solver k (record m { model = with_system m.model at })
  give (System k (length m.model.systems.items))

unfoldable pub make_system : Place → ℕ → Act Value
make_system at k = λ s. adding_system at k (solver_at s k) s

unfoldable pub adding_sum : Place → ℕ → SolverState → Act Value
adding_sum at k m = do
  _ ← unless (not m.closed) at AlreadyClosed
  _ ← put_solver k (record m { model = with_objective m.model at })
  give (Objective k (length m.model.objectives.items))

unfoldable pub make_sum : Place → ℕ → Act Value
make_sum at k = λ s. adding_sum at k (solver_at s k) s

-- `post`: one more constraint of a system, or one more term of an objective, with its weight

-- a checked program posts numbers; anything else stands for 0
abbrev pub number_for : SolverState → Term → Term
number_for m t = if same_kind number_kind (kind_of_term (kinds_in m.model.vars.items) t) then t else constant (pos 0)

abbrev pub posted_in : SolverState → Whole → Term → ℤ → SolverState
posted_in m w t weight = record m { model = with_member m.model w (record { term = number_for m t; weight = weight }) }

unfoldable pub posting : Place → ℕ → Whole → Term → ℤ → SolverState → Act (Unit {0})
posting at k w t weight m = do
  _ ← unless (not m.closed) at AlreadyClosed
  _ ← unless (has_whole m w && all_variables (owns k m) t) at WrongSolver
  _ ← unless (int_le (pos 0) weight) at OutOfRange
  _ ← unless (has_room m (number_for m t)) at (TooMany TermNodes)
  put_solver k (posted_in m w t weight)

unfoldable pub post_to : Place → Term → ℤ → ℕ → Whole → Act Value
post_to at t weight k w = λ s. (posting at k w t weight (solver_at s k) >>= λ _. give Nothing) s

abbrev pub post : Place → Term → ℤ → Value → Act Value
post at t weight v = of_whole (post_to at t weight) v

-- the same of a user's constraint over these places: it gets the next number of its solver, and its rule stands behind those
-- of the solver; its node has no place, since it never fails

abbrev pub user_node : List Term → SolverState → Term
user_node ts m = node (ops.User (length m.rules)) ts (record { line = 0; col = 0 })

abbrev pub with_rule : KeptRule → SolverState → SolverState
with_rule rule m = record m { rules = m.rules ++ rule ∷ [] }

unfoldable pub posting_user : Place → ℕ → Whole → KeptRule → List Term → ℤ → SolverState → Act (Unit {0})
posting_user at k w rule ts weight m = posting at k w (user_node ts m) weight (with_rule rule m)

unfoldable pub post_user_to : Place → KeptRule → List Term → ℤ → ℕ → Whole → Act Value
post_user_to at rule ts weight k w = λ s. (posting_user at k w rule ts weight (solver_at s k) >>= λ _. give Nothing) s

abbrev pub post_user : Place → KeptRule → List Term → ℤ → Value → Act Value
post_user at rule ts weight v = of_whole (post_user_to at rule ts weight) v

-- a new objective of one term, in the solver of the first variable in it, in the order of the operations' arguments

abbrev pub first_of : List (Option VarId) → Option VarId
first_of [] = None
first_of (Some x ∷ xs) = Some x
first_of (None ∷ xs) = first_of xs

abbrev pub first_step : Term-F (Option VarId) → Option VarId
first_step (Term-F.Const x) = None
first_step (Term-F.ConstSet s) = None
first_step (Term-F.Var v) = Some v
first_step (Term-F.Node op args place) = first_of args.items

abbrev pub first_variable : Term → Option VarId
first_variable = fold-Term (Option VarId) first_step

unfoldable pub adding_objective : Place → ℕ → Term → SolverState → Act Value
adding_objective at k t m = do
  _ ← unless (not m.closed) at AlreadyClosed
  _ ← posting at k (wholes.Objective (length m.model.objectives.items)) t (pos 1) (record m { model = with_objective m.model at })
  give (Objective k (length m.model.objectives.items))

-- a term without a variable is of no solver
abbrev pub objective_by : Place → Term → Option VarId → Act Value
objective_by at t None = fault at WrongSolver
objective_by at t (Some x) = λ s. adding_objective at x.solver t (solver_at s x.solver) s

unfoldable pub make_objective : Place → Term → Act Value
make_objective at t = objective_by at t (first_variable t)

-- the violations of a system, and the value of an objective

unfoldable pub valuing : Place → Whole → SolverState → Act Value
valuing at w m = do
  _ ← unless m.closed at NotClosed
  _ ← unless (has_whole m w) at WrongSolver
  z ← give_or_met (value_of (users_of m.rules) m.model m.assignment w)
  give (Number z)

unfoldable pub whole_value : Place → ℕ → Whole → Act Value
whole_value at k w = λ s. valuing at w (solver_at s k) s

-- the answer to a question, or its fault: at this place where it is one of the question itself, and else where it was
-- met; the meaning of a program never wants memory
abbrev pub give_asked : Place → Result ℤ AskStop → Act Value
give_asked at (Ok z) = give (Number z)
give_asked at (Err (Run f)) = fault at f
give_asked at (Err (Fault place f)) = fault place f
give_asked at (Err NoMemory) = give Nothing

-- a question about variables of the solver
unfoldable pub asking : Place → ℕ → Whole → List VarId → Result ℤ AskStop → SolverState → Act Value
asking at k w xs answer m = do
  _ ← unless m.closed at NotClosed
  _ ← unless (has_whole m w && list_all (owns k m) xs) at WrongSolver
  give_asked at answer

-- the violations of a variable in a system

abbrev pub violations_answer : SolverState → Whole → VarId → Result ℤ AskStop
violations_answer m (wholes.System i) x = variable_violations_of (users_of m.rules) m.model m.assignment i x.index
violations_answer m (wholes.Objective i) x = Ok (pos 0)

unfoldable pub variable_violations : Place → VarId → ℕ → Whole → Act Value
variable_violations at x k w = λ s. asking at k w (x ∷ []) (violations_answer (solver_at s k) w x) (solver_at s k) s

abbrev pub violations : Place → Value → List Value → Act Value
violations at v [] = of_whole (whole_value at) v
violations at v (Variable x ∷ []) = of_whole (variable_violations at x) v
violations at v vs = give Nothing

-- the delta of an assignment, and of a swap: the value after the move less the value now

abbrev pub delta_answer : SolverState → Whole → Move → Result ℤ AskStop
delta_answer m w move = delta_of (users_of m.rules) m.model m.assignment w move

unfoldable pub delta : Place → List VarId → Move → ℕ → Whole → Act Value
delta at xs move k w = λ s. asking at k w xs (delta_answer (solver_at s k) w move) (solver_at s k) s

abbrev pub assign_delta : Place → Value → List Value → Act Value
assign_delta at v (Variable x ∷ z ∷ []) = of_whole (delta at (x ∷ []) (Assign x.index (number_of z))) v
assign_delta at v vs = give Nothing

abbrev pub swap_delta : Place → Value → List Value → Act Value
swap_delta at v (Variable x ∷ Variable y ∷ []) = of_whole (delta at (x ∷ y ∷ []) (Swap x.index y.index)) v
swap_delta at v vs = give Nothing
