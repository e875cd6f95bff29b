-- The parts of forms that are done once the operands have their values. From the language.
use Rattle.std.specs.Prelude.{ℕ, ℤ, pos, List, [], length, map, nat_eq}
use Rattle.cbl_base.specs.Counts.{count_of}
use Rattle.cbl_base.specs.declared.ids.VarId.{VarId}
use Rattle.cbl_base.specs.declared.place.Place.{Place}
use Rattle.cbl_base.specs.declared.faults.RunFault.TheVariants.{OutOfRange}
use Rattle.checked_tree.specs.declared.expressions.Slot.{Slot}
use Rattle.comet_meaning.specs.Values.{Value, Number, Array, Row, Variables}
use Rattle.comet_meaning.specs.Outcome.{Act, ◌>>=◌, give, unless, charge}
use Rattle.comet_meaning.specs.Cells.{look, put, cells, cells_of, variables, variables_of, row_of, new_array, extent, count_cells, cell, at_index, at_indices, found_at}
use Rattle.comet_meaning.specs.Taking.{read_each, read_array, taken_whole}
use Rattle.comet_meaning.specs.Parts.{solver_at, value_now}
use Rattle.comet_meaning.specs.Levels.{Target}
use Rattle.comet_meaning.specs.Writes.{moved, element_of}
use Rattle.comet_meaning.specs.Printing as printing
use Rattle.comet_meaning.specs.Printing.{array_text, variables_text, value_text, grid_text, cells_text, print}
use Rattle.comet_meaning.specs.State.{State, VariableCells}
use Rattle.run_values.specs.Texts.{plain_text}

-- `a[i]`, of an array and an index
abbrev pub indexed : Place → Value → ℤ → Act Value
indexed at v z = do
  b ← extent v
  k ← found_at at (at_index b z)
  cell v k

-- `a[i,j]`
abbrev pub indexed_twice : Place → Value → ℤ → ℤ → Act Value
indexed_twice at v y z = do
  b ← extent v
  k ← found_at at (at_indices b y z)
  cell v k

-- the variable that a name's cell holds
abbrev pub moved_in : Slot → Act Target
moved_in slot = look slot >>= λ v. give (moved v)

-- `a[i]` where it is written
abbrev pub index_written : Place → Value → ℤ → Act Target
index_written at v z = do
  b ← extent v
  k ← found_at at (at_index b z)
  element_of v k

-- `a[i,j]` where it is written
abbrev pub cell_written : Place → Value → ℤ → ℤ → Act Target
cell_written at v y z = do
  b ← extent v
  k ← found_at at (at_indices b y z)
  element_of v k

-- the numbers of an array, of which each variable is read
abbrev pub numbers_read : Place → Value → Act (List ℤ)
numbers_read at v = read_array at v >>= λ c. give c.numbers

-- how often a number stands in it
abbrev pub count_read : Place → Value → ℤ → Act ℤ
count_read at v z = numbers_read at v >>= λ xs. give (pos (count_of z xs))

-- `count(a, e)`, whose array stands at the second place
abbrev pub counted : Place → Place → Value → ℤ → Act Value
counted at place v z = do
  _ ← charge 1 at
  xs ← taken_whole place v
  give (Number (pos (count_of z xs)))

-- `int[] a = e`, whose array stands at the second place
abbrev pub copied_into : Place → Place → Slot → Value → Act (Unit {0})
copied_into at place slot v = do
  c ← read_array place v
  _ ← charge (length c.numbers) at
  a ← new_array (row_of c.numbers)
  put slot a

-- the numbers of a list that an array is declared with, which stands at the second place
abbrev pub listed : Place → Place → ℕ → Value → Act (List ℤ)
listed at place count v = do
  c ← read_array place v
  _ ← unless (nat_eq (length c.numbers) count) at OutOfRange
  _ ← charge count at
  give c.numbers

-- the size of an array
abbrev pub array_size : Value → Act Value
array_size v = count_cells v >>= λ n. give (Number (pos n))

-- a value that is printed
abbrev pub shown : Place → Value → Act (Unit {0})
shown at v = do
  text ← value_text at v
  print text

-- the text of an array, whose cells are charged before, at the array, where each variable is read
abbrev pub array_text_of : Place → Value → Act (List ℕ)
array_text_of at (Variables n) = variables_text at (Variables n)
array_text_of at v = array_text at v

-- the same where they are charged already
abbrev pub text_read : Place → Value → Act (List ℕ)
text_read at (Variables n) = do
  c ← variables (Variables n)
  vs ← read_each at c.variables []
  give (grid_text c.rows (map printing.plain_text vs) c.columns)
text_read at v = cells v >>= λ c. give (cells_text c)

-- an array that is printed
abbrev pub array_shown : Place → Value → Act (Unit {0})
array_shown at v = do
  text ← array_text_of at v
  print text

-- the values of variables as a state has them, and the text of an array
abbrev pub values_now : State → List VarId → List Value
values_now s xs = map (λ x. value_now (solver_at s x.solver) x.index) xs

abbrev pub variables_chars : State → VariableCells → List ℕ
variables_chars s c = grid_text c.rows (map printing.plain_text (values_now s c.variables)) c.columns

abbrev pub array_chars : State → Value → List ℕ
array_chars s (Variables n) = variables_chars s (variables_of s (Variables n))
array_chars s v = cells_text (cells_of s v)

-- the text of a value that is printed
abbrev pub shown_text : State → Value → List ℕ
shown_text s (Array n) = array_chars s (Array n)
shown_text s (Row xs) = array_chars s (Row xs)
shown_text s (Variables n) = array_chars s (Variables n)
shown_text s v = plain_text v
