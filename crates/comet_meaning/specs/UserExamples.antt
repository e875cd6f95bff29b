-- Two users' constraints, and small programs that post them, as checked trees: what the laws compute the meaning of. All
-- stand in one line.
use Rattle.std.specs.Prelude.{ℕ, ◌-◌, ◌+◌, ℤ, pos, ◌-ℤ◌, Bool, true, List, [], ◌∷◌, codes, filter, length, map, replicate, max, nat_abs, Result}
use Rattle.std.specs.Int.{int_max}
use Rattle.std.specs.Ordering.{int_eq}
use Rattle.term_model.specs.declared.model.Model.{Model}
use Rattle.term_model.specs.declared.model.VarDecl.{VarDecl}
use Rattle.term_model.specs.declared.model.VarKind.TheVariants.{Number}
use Rattle.term_model.specs.declared.term.Term.{Term}
use Rattle.posted_users.specs.KeptRule.{KeptRule, is_kept, kept_nothing, only, users_of}
use Rattle.model_values.specs.Delta.{value_of}
use Rattle.model_values.specs.declared.failure.Failure.{Failure}
use Rattle.model_values.specs.declared.wholes.Whole.TheVariants.{System}
use Rattle.model_view.specs.Building.{empty_model, variable, with_variable}
use Rattle.checked_tree.specs.declared.kind.Kind.TheVariants as kinds
use Rattle.checked_tree.specs.declared.expressions.Slot.TheVariants.{Global}
use Rattle.checked_tree.specs.declared.expressions.Builtin.TheVariants as builtins
use Rattle.checked_tree.specs.declared.expressions.Method.TheVariants as methods
use Rattle.checked_tree.specs.Shape as shapes
use Rattle.checked_tree.specs.Shape.{Seen, quoted, wholes}
use Rattle.checked_tree.specs.Actions as deeds
use Rattle.checked_tree.specs.Tasks.{Whole}
use Rattle.comet_meaning.specs.Users.{User}
use Rattle.comet_meaning.specs.Solvers.{SolverState, new_solver}
use Rattle.comet_meaning.specs.Members.{with_member, with_system}
use Rattle.comet_meaning.specs.Systems.{user_node, with_rule}
use Rattle.comet_meaning.specs.Examples.{column, moving_part, statement, with_two}
use Rattle.comet_meaning.specs.SystemExamples.{of_system, system_of}

-- a rule that tells the same of the whole and of each place
abbrev rule_by : (List ℤ → ℕ) → KeptRule
rule_by f = record {
  told = λ xs. only (is_kept xs) (f xs ∷ replicate (length xs) (f xs));
  nothing = λ xs e. kept_nothing (is_kept xs) (f xs ∷ replicate (length xs) (f xs)) e;
}

-- `allequal`: the places less the greatest number of equal values

abbrev equal_to : List ℤ → ℤ → ℕ
equal_to xs x = length (filter (int_eq x) xs)

abbrev greatest : List ℕ → ℕ
greatest [] = 0
greatest (n ∷ ns) = max n (greatest ns)

abbrev pub all_equal : KeptRule
all_equal = rule_by (λ xs. length xs - greatest (map (equal_to xs) xs))

-- `increasing`: the sum of how far each falls behind the one before it

abbrev falls : List ℤ → ℕ
falls [] = 0
falls (x ∷ []) = 0
falls (x ∷ y ∷ xs) = nat_abs (int_max (pos 0) (x -ℤ y)) + falls (y ∷ xs)

abbrev pub increasing : KeptRule
increasing = rule_by falls

-- both, as they are handed in

abbrev user : List ℕ → KeptRule → Bool → User
user name rule free = record { name = name; rule = rule; free = free }

abbrev pub both : List User
both = user (codes "allequal") all_equal true ∷ user (codes "increasing") increasing true ∷ []

-- a solver of three variables with one of them posted over these

abbrev number : VarDecl
number = record { kind = Number; low = pos 0; up = pos 9 }

abbrev three : Model
three = with_system (with_variable (with_variable (with_variable empty_model number) number) number) (column 1)

abbrev cell : ℕ → Term
cell i = variable (record { solver = 0; index = i })

abbrev three_cells : List Term
three_cells = cell 0 ∷ cell 1 ∷ cell 2 ∷ []

abbrev solver_of : List ℤ → SolverState
solver_of zs = record new_solver { model = three; assignment = zs }

abbrev pub posted_over : KeptRule → List ℤ → SolverState
posted_over rule zs = record (with_rule rule (solver_of zs)) {
  model = with_member three (System 0) (record { term = user_node three_cells (solver_of zs); weight = pos 1 });
}

-- the violations of the system that holds it
abbrev pub violations_over : KeptRule → List ℤ → Result ℤ Failure
violations_over rule zs = let m = posted_over rule zs in value_of (users_of m.rules) m.model m.assignment (System 0)

-- `Solver<LS> m(); var{int} x(m) := 1; var{int} y(m) := 2; ConstraintSystem<LS> S(m); S.post(user("..", [x,y]));`

abbrev x_and_y : ℕ → Seen
x_and_y n = moving_part n kinds.Array (shapes.list (wholes (
    moving_part (n + 1) kinds.Variable (shapes.name (Global 1)) ∷ moving_part (n + 3) kinds.Variable (shapes.name (Global 2)) ∷ [])))

abbrev pub posting_of : List ℕ → Whole
posting_of name = with_two (
    system_of 57 ∷
    statement 84 (deeds.doing (of_system 84 methods.Post (
    moving_part 91 kinds.Constraint (shapes.builtin builtins.User (wholes (quoted name ∷ x_and_y 103 ∷ []))) ∷ []))) ∷ [])
