-- The cells of names, and those of arrays. From the language.
use Rattle.std.specs.Prelude.{ℕ, zero, suc, ◌+◌, ◌*◌, ℤ, pos, ◌-ℤ◌, nat_abs, ◌&&◌, List, [], ◌∷◌, ◌++◌, length, Option, Some, None, slice_get, slice_set, slice_index_or, if◌then◌else◌}
use Rattle.cbl_base.specs.declared.ids.VarId.{VarId}
use Rattle.cbl_base.specs.declared.place.Place.{Place}
use Rattle.cbl_base.specs.declared.faults.RunFault.TheVariants.{OutOfRange}
use Rattle.checked_tree.specs.declared.expressions.Slot.{Slot}
use Rattle.checked_tree.specs.declared.expressions.Slot.TheVariants.{Global, Local}
use Rattle.comet_meaning.specs.Values.{Value, Nothing, Number, Array, Row, Variable, Variables, Bounds, Extent, size_of, is_within, from_zero}
use Rattle.comet_meaning.specs.State.{State, Cells, VariableCells}
use Rattle.comet_meaning.specs.Outcome.{Went, Act, ◌>>=◌, give, fault}

-- names

-- cells with this one written; those before it that weren't there yet hold nothing
abbrev pub with_cell : ℕ → Value → List Value → List Value
with_cell zero v [] = v ∷ []
with_cell zero v (x ∷ xs) = v ∷ xs
with_cell (suc i) v [] = Nothing ∷ with_cell i v []
with_cell (suc i) v (x ∷ xs) = x ∷ with_cell i v xs

-- what a name's cell holds
abbrev pub held : State → Slot → Value
held s (Global i) = slice_index_or s.globals i Nothing
held s (Local i) = slice_index_or s.frame i Nothing

unfoldable pub look : Slot → Act Value
look slot = λ s. Went (held s slot) s

-- a name's cell gets a value
unfoldable pub put : Slot → Value → Act (Unit {0})
put (Global i) v = λ s. Went tt (record s { globals = with_cell i v s.globals })
put (Local i) v = λ s. Went tt (record s { frame = with_cell i v s.frame })

-- the names of a call end with it, and those of a generator with what it gives its values to
abbrev pub back_in : {A : Type 0} → List Value → A → Act A
back_in frame x = λ s. Went x (record s { frame = frame })

unfoldable pub in_scope : {A : Type 0} → Act A → Act A
in_scope m = λ s. (m >>= back_in s.frame) s

-- a call's names are those of its frame
unfoldable pub in_frame : {A : Type 0} → List Value → Act A → Act A
in_frame frame m = λ s. m (record s { frame = frame })

-- arrays

abbrev pub no_cells : Cells
no_cells = record { rows = from_zero 0; columns = None; numbers = [] }

-- numbers in a row, as an array from 0
abbrev pub row_of : List ℤ → Cells
row_of xs = record { rows = from_zero (length xs); columns = None; numbers = xs }

-- the cells of an array of numbers
abbrev pub cells_of : State → Value → Cells
cells_of s (Array n) = slice_index_or s.arrays n no_cells
cells_of s (Row xs) = row_of xs
cells_of s v = no_cells

unfoldable pub cells : Value → Act Cells
cells v = λ s. Went (cells_of s v) s

-- a new array, which gets the next number
unfoldable pub new_array : Cells → Act Value
new_array a = λ s. Went (Array (length s.arrays)) (record s { arrays = s.arrays ++ a ∷ [] })

-- the same of arrays of variables

abbrev pub no_variables : VariableCells
no_variables = record { rows = from_zero 0; columns = None; variables = [] }

abbrev pub variables_of : State → Value → VariableCells
variables_of s (Variables n) = slice_index_or s.variable_arrays n no_variables
variables_of s v = no_variables

unfoldable pub variables : Value → Act VariableCells
variables v = λ s. Went (variables_of s v) s

unfoldable pub new_variables : VariableCells → Act Value
new_variables a = λ s. Went (Variables (length s.variable_arrays)) (record s { variable_arrays = s.variable_arrays ++ a ∷ [] })

-- of either: the bounds of its indices, how many cells there are, and what a cell holds, a variable unread

abbrev pub cells_extent : Cells → Extent
cells_extent c = record { rows = c.rows; columns = c.columns }

abbrev pub variables_extent : VariableCells → Extent
variables_extent c = record { rows = c.rows; columns = c.columns }

abbrev pub extent_of : State → Value → Extent
extent_of s (Variables n) = variables_extent (variables_of s (Variables n))
extent_of s v = cells_extent (cells_of s v)

unfoldable pub extent : Value → Act Extent
extent v = λ s. Went (extent_of s v) s

abbrev pub size_in : State → Value → ℕ
size_in s (Variables n) = length (variables_of s (Variables n)).variables
size_in s v = length (cells_of s v).numbers

unfoldable pub count_cells : Value → Act ℕ
count_cells v = λ s. Went (size_in s v) s

-- the number in a cell
abbrev pub number_at : Cells → ℕ → Value
number_at a k = Number (slice_index_or a.numbers k (pos 0))

abbrev pub variable_or : Option VarId → Value
variable_or None = Nothing
variable_or (Some x) = Variable x

abbrev pub cell_in : State → Value → ℕ → Value
cell_in s (Variables n) k = variable_or (slice_get (variables_of s (Variables n)).variables k)
cell_in s v k = number_at (cells_of s v) k

unfoldable pub cell : Value → ℕ → Act Value
cell v k = λ s. Went (cell_in s v k) s

-- how far a number is from the low end
abbrev pub offset : Bounds → ℤ → ℕ
offset b i = nat_abs (i -ℤ b.low)

-- where the cell of one index stands, if there is one
abbrev pub at_index : Extent → ℤ → Option ℕ
at_index a i = if is_within a.rows i then Some (offset a.rows i) else None

-- the same of two indices
abbrev pub at_column : Bounds → ℤ → ℤ → Option Bounds → Option ℕ
at_column rows i j None = None
at_column rows i j (Some columns) =
    if is_within rows i && is_within columns j then Some (offset rows i * size_of columns + offset columns j) else None

abbrev pub at_indices : Extent → ℤ → ℤ → Option ℕ
at_indices a i j = at_column a.rows i j a.columns

-- a cell that is there, and else a fault
abbrev pub found_at : Place → Option ℕ → Act ℕ
found_at place None = fault place OutOfRange
found_at place (Some k) = give k

abbrev pub with_number : ℕ → ℤ → Option Cells → Cells
with_number k z None = no_cells
with_number k z (Some a) = record a { numbers = slice_set a.numbers k z }

-- a cell of an array gets a number
unfoldable pub put_number : ℕ → ℕ → ℤ → Act (Unit {0})
put_number n k z = λ s. Went tt (record s { arrays = slice_set s.arrays n (with_number k z (slice_get s.arrays n)) })
