-- Arrays: lists, indices, and arrays that are taken whole. From the language.
use Rattle.std.specs.Prelude.{pos, List, [], map}
use Rattle.cbl_base.specs.Counts.{count_of}
use Rattle.cbl_base.specs.declared.place.Place.{Place}
use Rattle.checked_tree.specs.Shape.{Shape}
use Rattle.comet_meaning.specs.Values.{Value, Number, Row, number_of}
use Rattle.comet_meaning.specs.Outcome.{Act, ◌>>=◌, give, charge}
use Rattle.comet_meaning.specs.Cells.{extent, cell, at_index, at_indices, found_at}
use Rattle.comet_meaning.specs.Levels.{Level}
use Rattle.comet_meaning.specs.Parts.{place_of, value, values, number}
use Rattle.comet_meaning.specs.Taking.{taken_whole}

-- a list: its numbers in a row
unfoldable pub list_form : Level → List Shape → Act Value
list_form l es = values l es [] >>= λ vs. give (Row (map number_of vs))

-- `a[i]` is the cell, in an array of variables the variable itself, and a fault outside the array
unfoldable pub index_form : Level → Place → Shape → Shape → Act Value
index_form l at a i = do
  v ← value l a
  z ← number l i
  b ← extent v
  k ← found_at at (at_index b z)
  cell v k

-- the same of `a[i,j]`
unfoldable pub cell_form : Level → Place → Shape → Shape → Shape → Act Value
cell_form l at a i j = do
  v ← value l a
  y ← number l i
  z ← number l j
  b ← extent v
  k ← found_at at (at_indices b y z)
  cell v k

-- `count(a, e)`: the call is charged, and then the cells
unfoldable pub count_form : Level → Place → Shape → Shape → Act Value
count_form l at a e = do
  v ← value l a
  z ← number l e
  _ ← charge 1 at
  xs ← taken_whole (place_of a) v
  give (Number (pos (count_of z xs)))
