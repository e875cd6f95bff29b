-- Small programs with selectors, draws, moves, events and solutions, as checked trees: what the laws compute the meaning
-- of. All stand in one line.
use Rattle.std.specs.Prelude.{ℕ, ◌+◌, ℤ, pos, false, List, [], ◌∷◌, codes, Option, Some, None}
use Rattle.comet_syntax.specs.declared.tree.expressions.ChainOperator.TheVariants as chains
use Rattle.comet_syntax.specs.declared.tree.expressions.Comparison.TheVariants as comparisons
use Rattle.comet_syntax.specs.declared.tree.expressions.Extreme.TheVariants as extremes
use Rattle.comet_syntax.specs.declared.tree.statements.WriteOperator.TheVariants as writes
use Rattle.checked_tree.specs.declared.kind.Kind.{Kind}
use Rattle.checked_tree.specs.declared.kind.Kind.TheVariants as kinds
use Rattle.checked_tree.specs.declared.expressions.Slot.{Slot}
use Rattle.checked_tree.specs.declared.expressions.Slot.TheVariants.{Global, Local}
use Rattle.checked_tree.specs.declared.expressions.Method.{Method}
use Rattle.checked_tree.specs.declared.expressions.Method.TheVariants as methods
use Rattle.checked_tree.specs.declared.statements.EventSlots.{EventSlots}
use Rattle.checked_tree.specs.declared.statements.Way.TheVariants as ways
use Rattle.checked_tree.specs.Shape as shapes
use Rattle.checked_tree.specs.Shape.{Shape, Seen, whole, rows, wholes}
use Rattle.checked_tree.specs.Actions as deeds
use Rattle.checked_tree.specs.Actions.{Shown}
use Rattle.checked_tree.specs.Tasks as works
use Rattle.checked_tree.specs.Tasks.{Work, Whole, row_of}
use Rattle.comet_meaning.specs.Examples.{column, part, literal, use_of, statement, program, of_two, x_read, y_read, with_two, closing, assigning, at_once, taking, printing_both, span}

-- parts

abbrev asked : ℕ → Kind → ℕ → Kind → Method → Seen
asked n kind cell result m = record { start = column n; place = column (n + 2); kind = result; moving = false; form = shapes.method m (whole (use_of n kind (Global cell))) (wholes []) }

abbrev printing : ℕ → List Shown → Work
printing n xs = statement n (deeds.printing xs)

abbrev in_block : ℕ → List Work → Work
in_block n ws = works.task (column n) (works.block (row_of ws))

-- a generator over numbers from one to another
abbrev over : ℕ → Slot → ℕ → ℤ → ℤ → Shape
over n slot m low up = shapes.generator (column n) slot (whole (span m (literal m low) (literal (m + 3) up)))

abbrev name_of : ℕ → ℕ → Seen
name_of n i = use_of n kinds.Int (Local i)

-- what follows stands behind `Solver<LS> m(); var{int} x(m) := 1; var{int} y(m) := 2; m.close();`

abbrev with_closed : List Work → Whole
with_closed ws = with_two (closing 57 ∷ ws)

abbrev old_and_new : Option EventSlots
old_and_new = Some (record { old = Local 0; new = Local 1 })

abbrev watching : ℕ → Seen → Option EventSlots → Work → Work
watching n x names body = works.task (column n) (works.watching x names body)

-- `m.close(); whenever x@changes(int o, int n) y := n; whenever y@changes() cout << "y" << y << endl; x := 4; x := 4;`
abbrev pub passing_on : Whole
passing_on = with_closed (
    watching 68 (x_read 77) old_and_new (assigning 101 (y_read 101) (name_of 106 1)) ∷
    watching 109 (y_read 118) None (printing 130 (deeds.text (codes "y") ∷ deeds.value (y_read 145) ∷ deeds.end_line ∷ [])) ∷
    assigning 156 (x_read 156) (literal 161 (pos 4)) ∷
    assigning 164 (x_read 164) (literal 169 (pos 4)) ∷ [])

-- `m.close(); whenever x@changes(int o, int n) cout << o << "->" << n << endl; x := 3; x := 3; with atomic(m) { x := y; y := x; } cout << x << " " << y << endl;`
abbrev pub watching_block : Whole
watching_block = with_closed (
    watching 68 (x_read 77) old_and_new
    (printing 101 (deeds.value (name_of 109 0) ∷ deeds.text (codes "->") ∷ deeds.value (name_of 122 1) ∷ deeds.end_line ∷ [])) ∷
    assigning 133 (x_read 133) (literal 138 (pos 3)) ∷
    assigning 141 (x_read 141) (literal 146 (pos 3)) ∷
    at_once 149 (taking 166) ∷
    printing_both 184 ∷ [])

-- `m.close(); whenever x@changes() { y := x; cout << "a"; } whenever x@changes() cout << "b"; whenever y@changes() cout << "c"; x := 4;`
abbrev pub queueing : Whole
queueing = with_closed (
    watching 68 (x_read 77) None
    (in_block 89 (assigning 91 (y_read 91) (x_read 96) ∷ printing 99 (deeds.text (codes "a") ∷ []) ∷ [])) ∷
    watching 114 (x_read 123) None (printing 135 (deeds.text (codes "b") ∷ [])) ∷
    watching 148 (y_read 157) None (printing 169 (deeds.text (codes "c") ∷ [])) ∷
    assigning 182 (x_read 182) (literal 187 (pos 4)) ∷ [])

-- `m.close(); whenever x@changes() whenever x@changes() cout << x; x := 4; x := 5;`
abbrev pub attaching : Whole
attaching = with_closed (
    watching 68 (x_read 77) None (watching 89 (x_read 98) None (printing 110 (deeds.value (x_read 118) ∷ []))) ∷
    assigning 121 (x_read 121) (literal 126 (pos 4)) ∷
    assigning 129 (x_read 129) (literal 134 (pos 5)) ∷ [])

-- `m.close(); { int t = 1; whenever x@changes() { cout << t; t = t + 10; } t = 5; x := 2; x := 3; }`
abbrev pub keeping_names : Whole
keeping_names = with_closed (
    in_block 68 (
    statement 70 (deeds.declaring (Local 0) kinds.Int (Some (literal 78 (pos 1)))) ∷
    watching 81 (x_read 90) None (in_block 102 (
    printing 104 (deeds.value (name_of 112 0) ∷ []) ∷
    statement 115 (deeds.writing writes.Set (name_of 115 0) (of_two 119 (name_of 119 0) (shapes.link chains.Add (column 121) (whole (literal 123 (pos 10)))))) ∷ [])) ∷
    statement 129 (deeds.writing writes.Set (name_of 129 0) (literal 133 (pos 5))) ∷
    assigning 136 (x_read 136) (literal 141 (pos 2)) ∷
    assigning 144 (x_read 144) (literal 149 (pos 3)) ∷ []) ∷ [])

abbrev solution_of : ℕ → ℕ → Work
solution_of n k = statement n (deeds.making (Global 3) kinds.Solution (use_of k kinds.Solver (Global 0) ∷ []))

abbrev restoring : ℕ → Work
restoring n = statement n (deeds.doing (asked n kinds.Solution 3 kinds.Nothing methods.Restore))

-- `m.close(); Solution s(m); x := 7; x := 8; s.restore(); cout << x;`
abbrev pub restoring_one : Whole
restoring_one = with_closed (
    solution_of 68 79 ∷
    assigning 83 (x_read 83) (literal 88 (pos 7)) ∷
    assigning 91 (x_read 91) (literal 96 (pos 8)) ∷
    restoring 99 ∷
    printing 112 (deeds.value (x_read 120) ∷ []) ∷ [])

-- `m.close(); Solution s(m); x := 7; with atomic(m) { s.restore(); cout << x; } cout << x;`
abbrev pub restoring_later : Whole
restoring_later = with_closed (
    solution_of 68 79 ∷
    assigning 83 (x_read 83) (literal 88 (pos 7)) ∷
    at_once 91 (restoring 108 ∷ printing 121 (deeds.value (x_read 129) ∷ []) ∷ []) ∷
    printing 134 (deeds.value (x_read 142) ∷ []) ∷ [])

-- `Solution s(m);`
abbrev pub keeping_early : Whole
keeping_early = with_two (solution_of 57 68 ∷ [])

-- moves

abbrev move_of : ℕ → Work
move_of n = statement n (deeds.choosing (asked (n + 5) kinds.Selector 3 kinds.Move methods.GetMove))

abbrev submitting : ℕ → Seen → Work → Work
submitting n e body = works.task (column n) (works.submitting e (Global 3) body)

abbrev selector_at : ℕ → Work
selector_at n = statement n (deeds.making (Global 3) kinds.Selector [])

abbrev calling_best : ℕ → Work
calling_best n = works.task (column n) (works.when (asked (n + 4) kinds.Selector 3 kinds.Bool methods.HasMove) (move_of (n + 17)))

abbrev less_two : ℕ → Seen
less_two n = part n kinds.Int (shapes.parentheses (whole (of_two (n + 1) (name_of (n + 1) 0) (shapes.link chains.Subtract (column (n + 2)) (whole (literal (n + 3) (pos 2)))))))

-- `m.close(); MinNeighborSelector N(); forall(v in 1..3) neighbor((v-2)*(v-2), N) x := v; if (N.hasMove()) call(N.getMove()); cout << x;`
abbrev pub best_move : Whole
best_move = with_closed (
    selector_at 68 ∷
    works.task (column 93) (works.for_all (over 100 (Local 0) 105 (pos 1) (pos 3) ∷ []) None
    (submitting 111 (of_two 120 (less_two 120) (shapes.link chains.Multiply (column 125) (whole (less_two 126))))
    (assigning 136 (x_read 136) (name_of 141 0)))) ∷
    calling_best 144 ∷
    printing 180 (deeds.value (x_read 188) ∷ []) ∷ [])

-- `m.close(); MinNeighborSelector N(); forall(v in 1..3) neighbor(0, N) x := v; if (N.hasMove()) call(N.getMove()); cout << x;`
abbrev pub first_move : Whole
first_move = with_closed (
    selector_at 68 ∷
    works.task (column 93) (works.for_all (over 100 (Local 0) 105 (pos 1) (pos 3) ∷ []) None
    (submitting 111 (literal 120 (pos 0)) (assigning 126 (x_read 126) (name_of 131 0)))) ∷
    calling_best 134 ∷
    printing 170 (deeds.value (x_read 178) ∷ []) ∷ [])

-- `m.close(); MinNeighborSelector N(); call(N.getMove());`
abbrev pub without_move : Whole
without_move = with_closed (selector_at 68 ∷ move_of 93 ∷ [])

-- `m.close(); MinNeighborSelector N(); { int t = 1; neighbor(0, N) { cout << t; t = 7; } t = 5; } call(N.getMove()); call(N.getMove());`
abbrev pub calling_again : Whole
calling_again = with_closed (
    selector_at 68 ∷
    in_block 93 (
    statement 95 (deeds.declaring (Local 0) kinds.Int (Some (literal 103 (pos 1)))) ∷
    submitting 106 (literal 115 (pos 0)) (in_block 121 (
    printing 123 (deeds.value (name_of 131 0) ∷ []) ∷
    statement 134 (deeds.writing writes.Set (name_of 134 0) (literal 138 (pos 7))) ∷ [])) ∷
    statement 143 (deeds.writing writes.Set (name_of 143 0) (literal 147 (pos 5))) ∷ []) ∷
    move_of 152 ∷ move_of 171 ∷ [])

-- what follows stands alone

-- `int a[1..4] = [4,2,9,1]; selectMin(i in 1..4)(a[i]) cout << i << endl;`
abbrev pub choosing_least : Whole
choosing_least = program (
    statement 1 (deeds.declaring_array (Global 0) kinds.Array (record { slot = None; range = span 7 (literal 7 (pos 1)) (literal 10 (pos 4)) } ∷ [])
    (Some (record { way = ways.List; value = part 15 kinds.Array (shapes.list (wholes (literal 16 (pos 4) ∷ literal 18 (pos 2) ∷ literal 20 (pos 9) ∷ literal 22 (pos 1) ∷ []))) }))) ∷
    works.task (column 26) (works.selecting_by extremes.Min (over 36 (Local 0) 41 (pos 1) (pos 4) ∷ []) None
    (record { start = column 47; place = column 48; kind = kinds.Int; moving = false; form = shapes.index (whole (use_of 47 kinds.Array (Global 0))) (whole (name_of 49 0)) })
    (printing 53 (deeds.value (name_of 61 0) ∷ deeds.end_line ∷ []))) ∷ [])

-- `selectMin(i in 1..4 : i > 9)(i) cout << i; cout << "end" << endl;`
abbrev pub choosing_none : Whole
choosing_none = program (
    works.task (column 1) (works.selecting_by extremes.Min (over 11 (Local 0) 16 (pos 1) (pos 4) ∷ [])
    (Some (part 23 kinds.Bool (shapes.compare comparisons.Greater (whole (name_of 23 0)) (whole (literal 27 (pos 9))))))
    (name_of 30 0) (printing 33 (deeds.value (name_of 41 0) ∷ []))) ∷
    printing 44 (deeds.text (codes "end") ∷ deeds.end_line ∷ []) ∷ [])

-- `selectMax(i in 1..2, j in 1..2 : j != i)(i) cout << i << j;`
abbrev pub choosing_pair : Whole
choosing_pair = program (works.task (column 1) (works.selecting_by extremes.Max
    (over 11 (Local 0) 16 (pos 1) (pos 2) ∷ over 22 (Local 1) 27 (pos 1) (pos 2) ∷ [])
    (Some (part 34 kinds.Bool (shapes.compare comparisons.NotEqual (whole (name_of 34 1)) (whole (name_of 39 0)))))
    (name_of 42 0) (printing 45 (deeds.value (name_of 53 0) ∷ deeds.value (name_of 58 1) ∷ []))) ∷ [])

-- `UniformDistribution d(1..6); cout << d.get() << d.get(); select(i in 1..3) cout << i; select(i in 2..2) cout << i; cout << d.get();`
abbrev pub drawing : Whole
drawing = program (
    statement 1 (deeds.making (Global 0) kinds.Distribution (span 23 (literal 23 (pos 1)) (literal 26 (pos 6)) ∷ [])) ∷
    printing 30 (deeds.value (asked 38 kinds.Distribution 0 kinds.Int methods.Draw) ∷ deeds.value (asked 49 kinds.Distribution 0 kinds.Int methods.Draw) ∷ []) ∷
    works.task (column 58) (works.selecting (over 65 (Local 0) 70 (pos 1) (pos 3) ∷ []) None (printing 76 (deeds.value (name_of 84 0) ∷ []))) ∷
    works.task (column 87) (works.selecting (over 94 (Local 0) 99 (pos 2) (pos 2) ∷ []) None (printing 105 (deeds.value (name_of 113 0) ∷ []))) ∷
    printing 116 (deeds.value (asked 124 kinds.Distribution 0 kinds.Int methods.Draw) ∷ []) ∷ [])

-- `UniformDistribution d(1..0); int z = d.get();`
abbrev pub drawing_nothing : Whole
drawing_nothing = program (
    statement 1 (deeds.making (Global 0) kinds.Distribution (span 23 (literal 23 (pos 1)) (literal 26 (pos 0)) ∷ [])) ∷
    statement 30 (deeds.declaring (Global 1) kinds.Int (Some (asked 38 kinds.Distribution 0 kinds.Int methods.Draw))) ∷ [])
