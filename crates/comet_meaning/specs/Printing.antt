-- Printing: each item is evaluated and printed before the next one. From the language.
use Rattle.std.specs.Prelude.{ℕ, zero, suc, ℤ, Bool, List, [], ◌∷◌, ◌++◌, length, map, take, drop, codes, Option, Some, None, if◌then◌else◌}
use Rattle.std.specs.Fmt.{signed_decimal}
use Rattle.cbl_base.specs.declared.place.Place.{Place}
use Rattle.checked_tree.specs.Shape.{whole}
use Rattle.checked_tree.specs.Actions as deeds
use Rattle.checked_tree.specs.Actions.{Shown}
use Rattle.comet_meaning.specs.Values.{Value, Number, Truth, Range, Set, Array, Row, Variables, Bounds, size_of, number_of}
use Rattle.comet_meaning.specs.State.{Cells}
use Rattle.comet_meaning.specs.Outcome.{Went, Act, ◌>>=◌, give, charge}
use Rattle.comet_meaning.specs.Cells.{cells, variables}
use Rattle.comet_meaning.specs.Levels.{Level}
use Rattle.comet_meaning.specs.Parts.{value}
use Rattle.comet_meaning.specs.Taking.{read_each}

-- texts with commas between them
abbrev pub separated : List (List ℕ) → List ℕ
separated [] = []
separated (x ∷ []) = x
separated (x ∷ y ∷ zs) = x ++ codes "," ++ separated (y ∷ zs)

abbrev pub in_brackets : List (List ℕ) → List ℕ
in_brackets xs = codes "[" ++ separated xs ++ codes "]"

abbrev pub row_text : List ℤ → List ℕ
row_text xs = in_brackets (map signed_decimal xs)

-- so many rows of this length
abbrev pub rows_of : {A : Type 0} → ℕ → ℕ → List A → List (List A)
rows_of zero n xs = []
rows_of (suc k) n xs = take n xs ∷ rows_of k n (drop n xs)

-- texts of cells, with a row in brackets and an array of rows in brackets
abbrev pub grid_text : Bounds → List (List ℕ) → Option Bounds → List ℕ
grid_text rows xs None = in_brackets xs
grid_text rows xs (Some columns) = in_brackets (map in_brackets (rows_of (size_of rows) (size_of columns) xs))

-- an array as `[1,2,3]`, and one of two dimensions as `[[1,2],[3,4]]`
abbrev pub cells_text : Cells → List ℕ
cells_text c = grid_text c.rows (map signed_decimal c.numbers) c.columns

abbrev pub truth_text : Bool → List ℕ
truth_text b = if b then codes "true" else codes "false"

abbrev pub bounds_text : Bounds → List ℕ
bounds_text b = signed_decimal b.low ++ codes ".." ++ signed_decimal b.up

abbrev pub set_text : List ℤ → List ℕ
set_text xs = codes "{" ++ separated (map signed_decimal xs) ++ codes "}"

-- an array's cells are charged, at the array
unfoldable pub array_text : Place → Value → Act (List ℕ)
array_text at v = do
  c ← cells v
  _ ← charge (length c.numbers) at
  give (cells_text c)

-- the text of a variable's value
abbrev pub plain_text : Value → List ℕ
plain_text (Set xs) = set_text xs
plain_text v = signed_decimal (number_of v)

-- the same of an array of variables, each of which is read
unfoldable pub variables_text : Place → Value → Act (List ℕ)
variables_text at v = do
  c ← variables v
  _ ← charge (length c.variables) at
  vs ← read_each at c.variables []
  give (grid_text c.rows (map plain_text vs) c.columns)

unfoldable pub value_text : Place → Value → Act (List ℕ)
value_text at (Number z) = give (signed_decimal z)
value_text at (Truth b) = give (truth_text b)
value_text at (Range b) = give (bounds_text b)
value_text at (Set xs) = give (set_text xs)
value_text at (Array n) = array_text at (Array n)
value_text at (Row xs) = array_text at (Row xs)
value_text at (Variables n) = variables_text at (Variables n)
value_text at v = give []

unfoldable pub print : List ℕ → Act (Unit {0})
print text = λ s. Went tt (record s { printed = s.printed ++ text })

unfoldable pub shown_form : Level → Shown → Act (Unit {0})
shown_form l (deeds.value e) = do
  v ← value l (whole e)
  text ← value_text e.place v
  print text
shown_form l (deeds.text t) = print t
shown_form l deeds.end_line = print (10 ∷ [])

unfoldable pub print_form : Level → List Shown → Act (Unit {0})
print_form l [] = give tt
print_form l (x ∷ xs) = shown_form l x >>= λ _. print_form l xs
