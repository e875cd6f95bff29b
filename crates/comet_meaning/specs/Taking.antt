-- Arrays that are taken whole, by value. Each cell costs a unit at the array, and each variable in it is read there. From
-- the language.
use Rattle.std.specs.Prelude.{ℤ, List, [], ◌∷◌, ◌++◌, map}
use Rattle.cbl_base.specs.declared.ids.VarId.{VarId}
use Rattle.cbl_base.specs.declared.place.Place.{Place}
use Rattle.comet_meaning.specs.Values.{Value, Variable, Variables, number_of}
use Rattle.comet_meaning.specs.State.{Cells, VariableCells}
use Rattle.comet_meaning.specs.Outcome.{Act, ◌>>=◌, give, charge}
use Rattle.comet_meaning.specs.Cells.{cells, variables, count_cells}
use Rattle.comet_meaning.specs.Parts.{read}

-- the values of variables in a row, behind those before
unfoldable pub read_each : Place → List VarId → List Value → Act (List Value)
read_each at [] vs = give vs
read_each at (x ∷ xs) vs = read at (Variable x) >>= λ v. read_each at xs (vs ++ v ∷ [])

abbrev pub read_cells : VariableCells → List Value → Cells
read_cells c vs = record { rows = c.rows; columns = c.columns; numbers = map number_of vs }

-- the numbers of an array
unfoldable pub read_array : Place → Value → Act Cells
read_array at (Variables n) = do
  c ← variables (Variables n)
  vs ← read_each at c.variables []
  give (read_cells c vs)
read_array at v = cells v

-- the same of an array that is taken whole: its cells are charged first
unfoldable pub taken_whole : Place → Value → Act (List ℤ)
taken_whole at v = do
  n ← count_cells v
  _ ← charge n at
  c ← read_array at v
  give c.numbers
