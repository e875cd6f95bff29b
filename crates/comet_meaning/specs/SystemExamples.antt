-- Small programs with systems and sums, as checked trees: what the laws compute the meaning of. All stand in one line.
use Rattle.std.specs.Prelude.{ℕ, ◌+◌, pos, false, List, [], ◌∷◌, None}
use Rattle.checked_tree.specs.declared.kind.Kind.{Kind}
use Rattle.checked_tree.specs.declared.kind.Kind.TheVariants as kinds
use Rattle.checked_tree.specs.declared.expressions.Slot.TheVariants.{Global}
use Rattle.checked_tree.specs.declared.expressions.Builtin.{Builtin}
use Rattle.checked_tree.specs.declared.expressions.Builtin.TheVariants as builtins
use Rattle.checked_tree.specs.declared.expressions.Method.{Method}
use Rattle.checked_tree.specs.declared.expressions.Method.TheVariants as methods
use Rattle.checked_tree.specs.Shape as shapes
use Rattle.checked_tree.specs.Shape.{Seen, whole, wholes}
use Rattle.checked_tree.specs.Actions as deeds
use Rattle.checked_tree.specs.Tasks.{Work, Whole}
use Rattle.comet_meaning.specs.Examples.{column, part, moving_part, literal, use_of, statement, variable_with, x_read, y_read, with_two, closing}

-- what follows stands behind `Solver<LS> m(); var{int} x(m) := 1; var{int} y(m) := 2;`

-- `ConstraintSystem<LS> S(m);`
abbrev pub system_of : ℕ → Work
system_of n = statement n (deeds.making (Global 3) kinds.System (use_of (n + 23) kinds.Solver (Global 0) ∷ []))

abbrev asked : ℕ → Kind → ℕ → Method → List Seen → Seen
asked n kind cell m es = record {
  start = column n;
  place = column (n + 2);
  kind = kinds.Int;
  moving = false;
  form = shapes.method m (whole (use_of n kind (Global cell))) (wholes es);
}

abbrev pub of_system : ℕ → Method → List Seen → Seen
of_system n m es = asked n kinds.System 3 m es

-- `ConstraintSystem<LS> S(m); cout << S.violations();`
abbrev pub asking_early : Whole
asking_early = with_two (system_of 57 ∷ statement 84 (deeds.printing (deeds.value (of_system 92 methods.Violations []) ∷ [])) ∷ [])

-- `ConstraintSystem<LS> S(m); FunctionSum<LS> F(m); m.close(); cout << S.violations() << F.value() << S.violations(x) <<
-- S.getAssignDelta(x,5) << F.getSwapDelta(x,y);`
abbrev pub asking_of_nothing : Whole
asking_of_nothing = with_two (
    system_of 57 ∷
    statement 84 (deeds.making (Global 4) kinds.Total (use_of 102 kinds.Solver (Global 0) ∷ [])) ∷
    closing 106 ∷
    statement 117 (deeds.printing (
    deeds.value (of_system 125 methods.Violations []) ∷
    deeds.value (asked 143 kinds.Total 4 methods.ObjectiveValue []) ∷
    deeds.value (of_system 156 methods.Violations (x_read 169 ∷ [])) ∷
    deeds.value (of_system 175 methods.SystemAssignDelta (x_read 192 ∷ literal 194 (pos 5) ∷ [])) ∷
    deeds.value (asked 200 kinds.Total 4 methods.ObjectiveSwapDelta (x_read 215 ∷ y_read 217 ∷ [])) ∷ [])) ∷ [])

-- `m.close(); ConstraintSystem<LS> S(m);`
abbrev pub declaring_late : Whole
declaring_late = with_two (closing 57 ∷ system_of 68 ∷ [])

-- `ConstraintSystem<LS> S(m); Solver<LS> n(); var{int} z(n); m.close(); cout << S.getAssignDelta(z,1);`
abbrev pub asking_of_another : Whole
asking_of_another = with_two (
    system_of 57 ∷
    statement 84 (deeds.making (Global 4) kinds.Solver []) ∷
    statement 100 (variable_with (Global 5) 100 (Global 4) None None) ∷
    closing 115 ∷
    statement 126 (deeds.printing (deeds.value (of_system 134 methods.SystemAssignDelta (use_of 151 kinds.Variable (Global 5) ∷ literal 153 (pos 1) ∷ [])) ∷ [])) ∷ [])

-- `ConstraintSystem<LS> S(m); S.post(..);` with a constraint function

abbrev posting : Builtin → List Seen → Whole
posting f es = with_two (system_of 57 ∷
    statement 84 (deeds.doing (of_system 84 methods.Post (moving_part 91 kinds.Constraint (shapes.builtin f (wholes es)) ∷ []))) ∷ [])

abbrev only_x : ℕ → Seen
only_x n = moving_part n kinds.Array (shapes.list (wholes (moving_part (n + 1) kinds.Variable (shapes.name (Global 1)) ∷ [])))

-- `knapsack([1,2],[x],4)`
abbrev pub weighing : Whole
weighing = posting builtins.Knapsack (
    part 100 kinds.Array (shapes.list (wholes (literal 101 (pos 1) ∷ literal 103 (pos 2) ∷ []))) ∷ only_x 106 ∷ literal 110 (pos 4) ∷ [])

-- `sequence([x],{1},1,0)`
abbrev pub without_window : Whole
without_window = posting builtins.Sequence (
    only_x 100 ∷ part 104 kinds.Set (shapes.set (wholes (literal 105 (pos 1) ∷ []))) ∷ literal 108 (pos 1) ∷ literal 110 (pos 0) ∷ [])
