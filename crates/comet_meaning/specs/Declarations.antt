-- Declarations of numbers, truth values, ranges, sets, arrays of numbers and objects. An array's dimensions are
-- evaluated first; then each cell costs a unit, and gets its first value. A system and a sum are made from a solver, and
-- an objective from a term; a distribution is made from a range, and a solution from a closed solver. From the language.
use Rattle.std.specs.Prelude.{ℕ, ◌*◌, ℤ, pos, List, [], ◌∷◌, ◌++◌, length, Option, Some, None, nat_le, nat_eq, if◌then◌else◌}
use Rattle.cbl_base.specs.declared.place.Place.{Place}
use Rattle.cbl_base.specs.declared.faults.Limit.TheVariants as limits
use Rattle.cbl_base.specs.declared.faults.RunFault.TheVariants.{OutOfRange, TooMany}
use Rattle.checked_tree.specs.declared.kind.Kind.{Kind}
use Rattle.checked_tree.specs.declared.kind.Kind.TheVariants as kinds
use Rattle.checked_tree.specs.declared.expressions.Slot.{Slot}
use Rattle.checked_tree.specs.declared.statements.Way.{Way}
use Rattle.checked_tree.specs.declared.statements.Way.TheVariants as ways
use Rattle.checked_tree.specs.Shape.{Seen, whole}
use Rattle.checked_tree.specs.Actions.{Started, Sized}
use Rattle.comet_meaning.specs.Values.{Value, Nothing, Number, Input, Range, Distribution, Bounds, size_of, as_kind, first_value, bounds_of, solver_of}
use Rattle.comet_meaning.specs.Limits.{most_cells}
use Rattle.comet_meaning.specs.State.{Cells}
use Rattle.comet_meaning.specs.Outcome.{Went, Act, ◌>>=◌, give, unless, charge, each_in, always}
use Rattle.comet_meaning.specs.Cells.{put, row_of, new_array}
use Rattle.comet_meaning.specs.Levels.{Level}
use Rattle.comet_meaning.specs.Parts.{value, number, bounds, term}
use Rattle.comet_meaning.specs.Taking.{read_array}
use Rattle.comet_meaning.specs.Models.{make_solver}
use Rattle.comet_meaning.specs.Systems.{make_system, make_sum, make_objective}
use Rattle.comet_meaning.specs.Moves.{make_selector}
use Rattle.comet_meaning.specs.Solutions.{make_solution}

-- names of one value

-- `int[] a = e`: a new array of the numbers of `e`
unfoldable pub copied_form : Level → Place → Slot → Seen → Act (Unit {0})
copied_form l at slot e = do
  v ← value l (whole e)
  c ← read_array e.place v
  _ ← charge (length c.numbers) at
  a ← new_array (row_of c.numbers)
  put slot a

unfoldable pub scalar_form : Level → Place → Slot → Kind → Option Seen → Act (Unit {0})
scalar_form l at slot k None = put slot (first_value k)
scalar_form l at slot kinds.Array (Some e) = copied_form l at slot e
scalar_form l at slot k (Some e) = value l (whole e) >>= λ v. put slot (as_kind k v)

-- arrays

-- a dimension: its bounds, and the cell of its name
pub record Dimension : Type 0 where
  pub slot : Option Slot
  pub bounds : Bounds

unfoldable pub dimensions_form : Level → List Sized → List Dimension → Act (List Dimension)
dimensions_form l [] ds = give ds
dimensions_form l (d ∷ rest) ds = bounds l (whole d.range) >>= λ b. dimensions_form l rest (ds ++ record { slot = d.slot; bounds = b } ∷ [])

abbrev pub cell_count : List Dimension → ℕ
cell_count [] = 1
cell_count (d ∷ ds) = size_of d.bounds * cell_count ds

abbrev pub put_named : Option Slot → ℤ → Act (Unit {0})
put_named None z = give tt
put_named (Some slot) z = put slot (Number z)

-- what is done for each cell, row by row, with the names of the dimensions bound; it is told the cell's indices, behind
-- those before
abbrev pub each_cell : {A : Type 0} → (List ℤ → A → Act A) → List Dimension → List ℤ → A → Act A
each_cell visit [] is x = visit is x
each_cell visit (d ∷ ds) is x = each_in always (λ z y. put_named d.slot z >>= λ _. each_cell visit ds (is ++ z ∷ []) y) (Range d.bounds) x

-- what is made of all cells, from the first; where there is no cell nothing is done, however many rows there are
unfoldable pub every_cell : {A : Type 0} → (List ℤ → List A → Act (List A)) → List Dimension → Act (List A)
every_cell visit ds = if nat_eq (cell_count ds) 0 then give [] else each_cell visit ds [] []

-- the number of a cell; without a start it is 0
unfoldable pub start_number : Level → Option Seen → Act ℤ
start_number l None = give (pos 0)
start_number l (Some e) = number l (whole e)

-- one more cell: its unit, and then its number
unfoldable pub next_cell : Level → Place → Option Seen → List ℤ → List ℤ → Act (List ℤ)
next_cell l at e is xs = do
  _ ← charge 1 at
  z ← start_number l e
  give (xs ++ z ∷ [])

-- a list of exactly as many numbers, before the first cell is charged
unfoldable pub listed_form : Level → Place → ℕ → Seen → Act (List ℤ)
listed_form l at count e = do
  v ← value l (whole e)
  c ← read_array e.place v
  _ ← unless (nat_eq (length c.numbers) count) at OutOfRange
  _ ← charge count at
  give c.numbers

unfoldable pub started_cells : Level → Place → List Dimension → Way → Seen → Act (List ℤ)
started_cells l at ds ways.List e = listed_form l at (cell_count ds) e
started_cells l at ds w e = every_cell (next_cell l at (Some e)) ds

unfoldable pub numbers_form : Level → Place → List Dimension → Option Started → Act (List ℤ)
numbers_form l at ds None = every_cell (next_cell l at None) ds
numbers_form l at ds (Some x) = started_cells l at ds x.way x.value

-- an array of one dimension or two with these numbers
abbrev pub array_of : List Dimension → List ℤ → Cells
array_of (d ∷ []) xs = record { rows = d.bounds; columns = None; numbers = xs }
array_of (d ∷ e ∷ ds) xs = record { rows = d.bounds; columns = Some e.bounds; numbers = xs }
array_of [] xs = row_of xs

unfoldable pub array_form : Level → Place → Slot → List Sized → Option Started → Act (Unit {0})
array_form l at slot sizes start = do
  ds ← dimensions_form l sizes []
  _ ← unless (nat_le (cell_count ds) most_cells) at (TooMany limits.Cells)
  xs ← numbers_form l at ds start
  a ← new_array (array_of ds xs)
  put slot a

-- objects

-- a new input, which begins with all data
unfoldable pub make_input : Act Value
make_input = λ s. Went (Input (length s.inputs)) (record s { inputs = s.inputs ++ s.data_text ∷ [] })

-- what is made in the solver that stands among the arguments
unfoldable pub made_in : Level → (ℕ → Act Value) → List Seen → Act Value
made_in l make (e ∷ []) = value l (whole e) >>= λ v. make (solver_of v)
made_in l make es = give Nothing

-- an objective of the term that stands there
unfoldable pub made_of_term : Level → Place → List Seen → Act Value
made_of_term l at (e ∷ []) = term l (whole e) >>= make_objective at
made_of_term l at es = give Nothing

-- a distribution over the range that stands there
unfoldable pub made_of_range : Level → List Seen → Act Value
made_of_range l (e ∷ []) = value l (whole e) >>= λ v. give (Distribution (bounds_of v))
made_of_range l es = give Nothing

-- an object that is declared, or that a name is given by `new`; the statement is the place of a system, of an objective
-- and of a solution
unfoldable pub object_form : Level → Place → Slot → Kind → List Seen → Act (Unit {0})
object_form l at slot kinds.Solver es = make_solver >>= put slot
object_form l at slot kinds.Input es = make_input >>= put slot
object_form l at slot kinds.System es = made_in l (make_system at) es >>= put slot
object_form l at slot kinds.Total es = made_in l (make_sum at) es >>= put slot
object_form l at slot kinds.Objective es = made_of_term l at es >>= put slot
object_form l at slot kinds.Distribution es = made_of_range l es >>= put slot
object_form l at slot kinds.Selector es = make_selector >>= put slot
object_form l at slot kinds.Solution es = made_in l (make_solution at) es >>= put slot
object_form l at slot k es = give tt
