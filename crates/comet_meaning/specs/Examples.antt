-- Small programs, as checked trees: what the laws compute the meaning of. All stand in one line.
use Rattle.std.specs.Prelude.{ℕ, ◌+◌, ℤ, pos, true, false, List, [], ◌∷◌, codes, Option, Some, None}
use Rattle.cbl_base.specs.declared.place.Place.{Place}
use Rattle.comet_syntax.specs.declared.tree.expressions.Aggregate.{Aggregate}
use Rattle.comet_syntax.specs.declared.tree.expressions.Aggregate.TheVariants as aggregates
use Rattle.comet_syntax.specs.declared.tree.expressions.ChainOperator.TheVariants as chains
use Rattle.comet_syntax.specs.declared.tree.expressions.Comparison.{Comparison}
use Rattle.comet_syntax.specs.declared.tree.expressions.Comparison.TheVariants as comparisons
use Rattle.comet_syntax.specs.declared.tree.expressions.UnaryOperator.TheVariants as unaries
use Rattle.comet_syntax.specs.declared.tree.statements.WithMode.TheVariants as modes
use Rattle.comet_syntax.specs.declared.tree.statements.WriteOperator.TheVariants as writes
use Rattle.checked_tree.specs.declared.kind.Kind.{Kind}
use Rattle.checked_tree.specs.declared.kind.Kind.TheVariants as kinds
use Rattle.checked_tree.specs.declared.expressions.Slot.{Slot}
use Rattle.checked_tree.specs.declared.expressions.Slot.TheVariants.{Global, Local}
use Rattle.checked_tree.specs.declared.expressions.Builtin.TheVariants as builtins
use Rattle.checked_tree.specs.declared.expressions.Method.TheVariants as methods
use Rattle.checked_tree.specs.declared.statements.Way.TheVariants as ways
use Rattle.checked_tree.specs.Shape as shapes
use Rattle.checked_tree.specs.Shape.{Shape, Seen, whole, rows, wholes}
use Rattle.checked_tree.specs.Actions as deeds
use Rattle.checked_tree.specs.Actions.{Deed, Shown, Started}
use Rattle.checked_tree.specs.Tasks as works
use Rattle.checked_tree.specs.Tasks.{Work, Coded, Whole, row_of}

-- how trees are written

abbrev pub column : ℕ → Place
column n = record { line = 1; col = n }

-- an expression whose place is its first token
abbrev pub part : ℕ → Kind → Shape → Seen
part n kind form = record { start = column n; place = column n; kind = kind; moving = false; form = form }

-- a part of a term with incremental variables
abbrev pub moving_part : ℕ → Kind → Shape → Seen
moving_part n kind form = record { start = column n; place = column n; kind = kind; moving = true; form = form }

abbrev pub literal : ℕ → ℤ → Seen
literal n z = part n kinds.Int (shapes.number z)

abbrev pub use_of : ℕ → Kind → Slot → Seen
use_of n kind slot = part n kind (shapes.name slot)

abbrev pub statement : ℕ → Deed → Work
statement n d = works.task (column n) (works.action d)

abbrev pub program : List Work → Whole
program ws = record { functions = []; tasks = ws }

-- `int x = 7; x = x / -2; cout << x << " " << 7 % -2 << " " << -7 % 2 << endl;`

abbrev pub of_two : ℕ → Seen → Shape → Seen
of_two n a next = part n kinds.Int (shapes.chain (whole a) (rows (next ∷ [])))

abbrev negative : ℕ → ℤ → Seen
negative n z = part n kinds.Int (shapes.unary unaries.Negative (whole (literal 0 z)))

abbrev pub dividing : Whole
dividing = program (
    statement 1 (deeds.declaring (Global 0) kinds.Int (Some (literal 9 (pos 7)))) ∷
    statement 12 (deeds.writing writes.Set (use_of 12 kinds.Int (Global 0))
    (of_two 16 (use_of 16 kinds.Int (Global 0)) (shapes.link chains.Divide (column 18) (whole (negative 20 (pos 2)))))) ∷
    statement 24 (deeds.printing (
    deeds.value (use_of 32 kinds.Int (Global 0)) ∷
    deeds.text (codes " ") ∷
    deeds.value (of_two 44 (literal 44 (pos 7)) (shapes.link chains.Remainder (column 46) (whole (negative 48 (pos 2))))) ∷
    deeds.text (codes " ") ∷
    deeds.value (of_two 61 (negative 61 (pos 7)) (shapes.link chains.Remainder (column 64) (whole (literal 66 (pos 2))))) ∷
    deeds.end_line ∷ [])) ∷ [])

-- `while(true){}`

abbrev pub looping : Whole
looping = program (works.task (column 1) (works.loop (part 7 kinds.Bool (shapes.truth true)) (works.task (column 12) (works.block works.no_more))) ∷ [])

-- `function int f(int n) { return f(n+1); } int x = f(0);`

abbrev calling_itself : Seen
calling_itself = part 32 kinds.Int (shapes.call 0 (wholes (
    of_two 34 (use_of 34 kinds.Int (Local 0)) (shapes.link chains.Add (column 35) (whole (literal 36 (pos 1)))) ∷ [])))

abbrev pub deepening : Whole
deepening = record {
  functions = record {
    place = column 1;
    name = codes "f";
    result = kinds.Int;
    parameters = kinds.Int ∷ [];
    body = works.task (column 23) (works.block (row_of (statement 25 (deeds.returning (Some calling_itself)) ∷ [])));
  } ∷ [];
  tasks = statement 42 (deeds.declaring (Global 1) kinds.Int (Some (part 50 kinds.Int (shapes.call 0 (wholes (literal 52 (pos 0) ∷ [])))))) ∷ [];
}

-- `InputFile d(); cout << d.getInt() << endl; int z = d.getInt();`

abbrev next_read : ℕ → Seen
next_read n = record { start = column n; place = column (n + 2); kind = kinds.Int; moving = false; form = shapes.method methods.ReadInt (whole (use_of n kinds.Input (Global 0))) (wholes []) }

abbrev pub reading : Whole
reading = program (
    statement 1 (deeds.making (Global 0) kinds.Input []) ∷
    statement 16 (deeds.printing (deeds.value (next_read 24) ∷ deeds.end_line ∷ [])) ∷
    statement 45 (deeds.declaring (Global 1) kinds.Int (Some (next_read 53))) ∷ [])

-- `Solver<LS> m(); var{int} x(m) := 1; var{int} y(m) := 2;`, and then more

abbrev pub variable_with : Slot → ℕ → Slot → Option Seen → Option Started → Deed
variable_with slot n solver domain start = deeds.declaring_variable (record {
  slot = slot;
  name = [];
  kind = kinds.Variable;
  dimensions = [];
  solver = solver;
  domain = domain;
  start = start;
})

abbrev starting : ℕ → ℤ → Option Started
starting n z = Some (record { way = ways.Each; value = literal n z })

abbrev pub x_read : ℕ → Seen
x_read n = use_of n kinds.Variable (Global 1)

abbrev pub y_read : ℕ → Seen
y_read n = use_of n kinds.Variable (Global 2)

abbrev pub with_two : List Work → Whole
with_two ws = program (
    statement 1 (deeds.making (Global 0) kinds.Solver []) ∷
    statement 17 (variable_with (Global 1) 17 (Global 0) None (starting 34 (pos 1))) ∷
    statement 37 (variable_with (Global 2) 37 (Global 0) None (starting 54 (pos 2))) ∷ ws)

abbrev pub closing : ℕ → Work
closing n = statement n (deeds.doing (record { start = column n; place = column (n + 2); kind = kinds.Nothing; moving = false; form = shapes.method methods.Close (whole (use_of n kinds.Solver (Global 0))) (wholes []) }))

abbrev pub printing_both : ℕ → Work
printing_both n = statement n (deeds.printing (deeds.value (x_read (n + 8)) ∷ deeds.text (codes " ") ∷ deeds.value (y_read (n + 13)) ∷ deeds.end_line ∷ []))

abbrev pub assigning : ℕ → Seen → Seen → Work
assigning n t e = statement n (deeds.writing writes.Assign t e)

abbrev pub at_once : ℕ → List Work → Work
at_once n ws = works.task (column n) (works.at_once modes.Atomic (Global 0) (works.task (column (n + 15)) (works.block (row_of ws))))

-- `x := y; y := x;`
abbrev pub taking : ℕ → List Work
taking n = assigning n (x_read n) (y_read (n + 5)) ∷ assigning (n + 8) (y_read (n + 8)) (x_read (n + 13)) ∷ []

-- `m.close(); with atomic(m) { x := y; y := x; } cout << x << " " << y << endl;`
abbrev pub committing : Whole
committing = with_two (closing 57 ∷ at_once 68 (taking 85) ∷ printing_both 103 ∷ [])

-- `m.close(); with atomic(m) { x := y; with atomic(m) { y := x; } x := 5; } cout << x << " " << y << endl;`
abbrev pub joining : Whole
joining = with_two (closing 57 ∷
    at_once 68 (assigning 85 (x_read 85) (y_read 90) ∷ at_once 93 (assigning 110 (y_read 110) (x_read 115) ∷ []) ∷ assigning 120 (x_read 120) (literal 125 (pos 5)) ∷ []) ∷
    printing_both 130 ∷ [])

-- `with atomic(m) { }`
abbrev pub committing_early : Whole
committing_early = with_two (at_once 57 [] ∷ [])

-- `x :=: y; cout << x << " " << y << endl;`
abbrev pub exchanging : Whole
exchanging = with_two (statement 57 (deeds.swapping (x_read 57) (y_read 63)) ∷ printing_both 66 ∷ [])

-- `Solver<LS> n(); var{int} z(n); x :=: z;`
abbrev pub exchanging_apart : Whole
exchanging_apart = with_two (
    statement 57 (deeds.making (Global 3) kinds.Solver []) ∷
    statement 73 (variable_with (Global 4) 73 (Global 3) None None) ∷
    statement 88 (deeds.swapping (x_read 88) (use_of 94 kinds.Variable (Global 4))) ∷ [])

-- `m.close(); y <- 1 / 0 + x;`
abbrev pub defining_by_zero : Whole
defining_by_zero = with_two (closing 57 ∷ statement 68 (deeds.writing writes.Define (y_read 68)
    (record {
      start = column 73;
      place = column 73;
      kind = kinds.Int;
      moving = true;
      form = shapes.chain
          (whole (of_two 73 (literal 73 (pos 1)) (shapes.link chains.Divide (column 75) (whole (literal 77 (pos 0))))))
          (rows (shapes.link chains.Add (column 79) (whole (record { start = column 81; place = column 81; kind = kinds.Variable; moving = true; form = shapes.name (Global 1) })) ∷ []));
    })) ∷ [])

-- `m.close(); m.close();`
abbrev pub closing_twice : Whole
closing_twice = with_two (closing 57 ∷ closing 68 ∷ [])

-- `Solver<LS> m(); var{int} a[i in 1..3](m, 0..9) := i * i; cout << a << a[2]; a[2] := 7; cout << a << a[2].getDomain();`

abbrev squares : Work
squares = statement 17 (deeds.declaring_variable (record {
  slot = Global 1;
  name = codes "a";
  kind = kinds.VariableArray;
  dimensions = record { slot = Some (Local 0); range = record { start = column 33; place = column 34; kind = kinds.Range; moving = false; form = shapes.range (whole (literal 33 (pos 1))) (whole (literal 36 (pos 3))) } } ∷ [];
  solver = Global 0;
  domain = Some (record { start = column 42; place = column 43; kind = kinds.Range; moving = false; form = shapes.range (whole (literal 42 (pos 0))) (whole (literal 45 (pos 9))) });
  start = Some (record { way = ways.Each; value = of_two 51 (use_of 51 kinds.Int (Local 0)) (shapes.link chains.Multiply (column 53) (whole (use_of 55 kinds.Int (Local 0)))) });
}))

abbrev second : ℕ → Seen
second n = record { start = column n; place = column (n + 1); kind = kinds.Variable; moving = false; form = shapes.index (whole (use_of n kinds.VariableArray (Global 1))) (whole (literal (n + 2) (pos 2))) }

abbrev second_domain : ℕ → Seen
second_domain n = record { start = column n; place = column (n + 5); kind = kinds.Range; moving = false; form = shapes.method methods.Domain (whole (second n)) (wholes []) }

abbrev pub squaring_cells : Whole
squaring_cells = program (
    statement 1 (deeds.making (Global 0) kinds.Solver []) ∷ squares ∷
    statement 58 (deeds.printing (deeds.value (use_of 66 kinds.VariableArray (Global 1)) ∷ deeds.value (second 71) ∷ [])) ∷
    assigning 77 (second 77) (literal 85 (pos 7)) ∷
    statement 88 (deeds.printing (deeds.value (use_of 96 kinds.VariableArray (Global 1)) ∷ deeds.value (second_domain 101) ∷ [])) ∷ [])

-- `function void f(int[] a, set{int} s) { a[0] = 1; s.insert(9); } int[] b = [0,2]; set{int} t = {1}; f(b,t); cout << b << t;`

abbrev numbers : ℕ → List ℤ → List Seen
numbers n [] = []
numbers n (z ∷ zs) = literal n z ∷ numbers (n + 2) zs

abbrev first_cell : Seen
first_cell = record { start = column 40; place = column 41; kind = kinds.Int; moving = false; form = shapes.index (whole (use_of 40 kinds.Array (Local 0))) (whole (literal 42 (pos 0))) }

abbrev inserting : Seen
inserting = record { start = column 50; place = column 52; kind = kinds.Nothing; moving = false; form = shapes.method methods.Insert (whole (use_of 50 kinds.Set (Local 1))) (wholes (literal 59 (pos 9) ∷ [])) }

abbrev pub handing_over : Whole
handing_over = record {
  functions = record {
    place = column 1;
    name = codes "f";
    result = kinds.Nothing;
    parameters = kinds.Array ∷ kinds.Set ∷ [];
    body = works.task (column 38) (works.block (row_of (
        statement 40 (deeds.writing writes.Set first_cell (literal 47 (pos 1))) ∷ statement 50 (deeds.doing inserting) ∷ [])));
  } ∷ [];
  tasks =
      statement 65 (deeds.declaring (Global 1) kinds.Array (Some (part 75 kinds.Array (shapes.list (wholes (numbers 76 (pos 0 ∷ pos 2 ∷ []))))))) ∷
      statement 82 (deeds.declaring (Global 2) kinds.Set (Some (part 95 kinds.Set (shapes.set (wholes (numbers 96 (pos 1 ∷ []))))))) ∷
      statement 100 (deeds.doing (part 100 kinds.Nothing (shapes.call 0 (wholes (use_of 102 kinds.Array (Global 1) ∷ use_of 104 kinds.Set (Global 2) ∷ []))))) ∷
      statement 108 (deeds.printing (deeds.value (use_of 116 kinds.Array (Global 1)) ∷ deeds.value (use_of 121 kinds.Set (Global 2)) ∷ [])) ∷ [];
}

-- `forall(i in 1..2, j in i..2) cout << i << j << endl;`

abbrev pub span : ℕ → Seen → Seen → Seen
span n a b = record { start = column n; place = column (n + 1); kind = kinds.Range; moving = false; form = shapes.range (whole a) (whole b) }

abbrev pub pairing : Whole
pairing = program (works.task (column 1) (works.for_all
    (shapes.generator (column 8) (Local 0) (whole (span 13 (literal 13 (pos 1)) (literal 16 (pos 2)))) ∷
    shapes.generator (column 19) (Local 1) (whole (span 24 (use_of 24 kinds.Int (Local 0)) (literal 27 (pos 2)))) ∷ [])
    None
    (statement 30 (deeds.printing (deeds.value (use_of 38 kinds.Int (Local 0)) ∷ deeds.value (use_of 43 kinds.Int (Local 1)) ∷ deeds.end_line ∷ [])))) ∷ [])

-- `function int one() { return 1; } int a[1..3]; int x = one() + count(a,0); cout << a;`

abbrev pub charging : Whole
charging = record {
  functions = record {
    place = column 1;
    name = codes "one";
    result = kinds.Int;
    parameters = [];
    body = works.task (column 20) (works.block (row_of (statement 22 (deeds.returning (Some (literal 29 (pos 1)))) ∷ [])));
  } ∷ [];
  tasks =
      statement 34 (deeds.declaring_array (Global 1) kinds.Array (record { slot = None; range = span 40 (literal 40 (pos 1)) (literal 43 (pos 3)) } ∷ []) None) ∷
      statement 47 (deeds.declaring (Global 2) kinds.Int (Some (of_two 55 (part 55 kinds.Int (shapes.call 0 (wholes []))) (shapes.link chains.Add (column 61) (whole (part 63 kinds.Int (shapes.builtin builtins.Count (wholes (use_of 69 kinds.Array (Global 1) ∷ literal 71 (pos 0) ∷ []))))))))) ∷
      statement 75 (deeds.printing (deeds.value (use_of 83 kinds.Array (Global 1)) ∷ [])) ∷ [];
}

-- `cout << sum(i in 1..3) i*i << all(i in 1..3 : i != 2) i << setof(i in 1..4) (i % 2 == 0) << argMin(i in 1..3) (i % 3);`

abbrev i_read : Seen
i_read = use_of 0 kinds.Int (Local 0)

abbrev over : ℤ → Shape
over up = rows (shapes.generator (column 0) (Local 0) (whole (span 0 (literal 0 (pos 1)) (literal 0 up))) ∷ [])

abbrev aggregate_of : Kind → Aggregate → ℤ → Shape → Seen → Shown
aggregate_of kind a up c body = deeds.value (part 0 kind (shapes.aggregate a (over up) c (whole body)))

abbrev compared : Comparison → Seen → ℤ → Seen
compared c a z = part 0 kinds.Bool (shapes.compare c (whole a) (whole (literal 0 z)))

abbrev rest_of : ℤ → Seen
rest_of z = of_two 0 i_read (shapes.link chains.Remainder (column 0) (whole (literal 0 z)))

abbrev pub aggregating : Whole
aggregating = program (statement 1 (deeds.printing (
    aggregate_of kinds.Int aggregates.Sum (pos 3) shapes.left_out (of_two 0 i_read (shapes.link chains.Multiply (column 0) (whole i_read))) ∷
    aggregate_of kinds.Array aggregates.All (pos 3) (whole (compared comparisons.NotEqual i_read (pos 2))) i_read ∷
    aggregate_of kinds.Set aggregates.SetOf (pos 4) shapes.left_out (compared comparisons.Equal (rest_of (pos 2)) (pos 0)) ∷
    aggregate_of kinds.Set aggregates.ArgMin (pos 3) shapes.left_out (rest_of (pos 3)) ∷ [])) ∷ [])

-- `cout << (false && 1 / 0 == 1) << endl;`

abbrev pub deciding : Whole
deciding = program (statement 1 (deeds.printing (
    deeds.value (part 10 kinds.Bool (shapes.chain (whole (part 10 kinds.Bool (shapes.truth false)))
    (rows (shapes.link chains.And (column 16) (whole (compared comparisons.Equal (of_two 19 (literal 19 (pos 1)) (shapes.link chains.Divide (column 21) (whole (literal 23 (pos 0))))) (pos 1))) ∷ [])))) ∷
    deeds.end_line ∷ [])) ∷ [])

-- `forall(i in 1..2, j in 1..2) { cout << i << j << endl; i = 9; }`

abbrev pub rebinding : Whole
rebinding = program (works.task (column 1) (works.for_all
    (shapes.generator (column 8) (Local 0) (whole (span 13 (literal 13 (pos 1)) (literal 16 (pos 2)))) ∷
    shapes.generator (column 19) (Local 1) (whole (span 24 (literal 24 (pos 1)) (literal 27 (pos 2)))) ∷ [])
    None
    (works.task (column 30) (works.block (row_of (
    statement 32 (deeds.printing (deeds.value (use_of 40 kinds.Int (Local 0)) ∷ deeds.value (use_of 45 kinds.Int (Local 1)) ∷ deeds.end_line ∷ [])) ∷
    statement 57 (deeds.writing writes.Set (use_of 57 kinds.Int (Local 0)) (literal 61 (pos 9))) ∷ []))))) ∷ [])
