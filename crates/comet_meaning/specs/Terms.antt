-- Terms, as statements make them: an expression stands in a term for a term, or for an array of terms. From the language.
use Rattle.std.specs.Prelude.{ℕ, pos, List, [], length, map, Option, None, slice_index_or}
use Rattle.term_model.specs.declared.term.Term.{Term}
use Rattle.model_view.specs.Building.{constant, constant_set, variable}
use Rattle.comet_meaning.specs.Values.{Value, Variable, Variables, Array, Row, Set, Bounds, Extent, from_zero, number_of}
use Rattle.comet_meaning.specs.State.{State, Cells, VariableCells}
use Rattle.comet_meaning.specs.Outcome.{Went, Act}
use Rattle.comet_meaning.specs.Cells.{cells_of, variables_of}

-- an array of terms with one dimension or two, row by row
pub record TermCells : Type 0 where
  pub rows : Bounds
  pub columns : Option Bounds
  pub terms : List Term

pub data InTerm : Type 0 where
  Single : Term → InTerm
  Several : TermCells → InTerm

-- terms in a row, as an array from 0
abbrev pub term_row : List Term → TermCells
term_row ts = record { rows = from_zero (length ts); columns = None; terms = ts }

abbrev pub term_extent : TermCells → Extent
term_extent c = record { rows = c.rows; columns = c.columns }

abbrev pub term_at : TermCells → ℕ → Term
term_at c k = slice_index_or c.terms k (constant (pos 0))

-- What is asked of what stands in a term; a checked program asks an array only of an array.

abbrev pub single_of : InTerm → Term
single_of (Single t) = t
single_of (Several c) = constant (pos 0)

abbrev pub several_of : InTerm → TermCells
several_of (Several c) = c
several_of (Single t) = term_row []

-- what a value stands for: a variable for itself, and a truth value for 1 or 0

abbrev pub constants : Cells → TermCells
constants c = record { rows = c.rows; columns = c.columns; terms = map constant c.numbers }

abbrev pub variable_terms : VariableCells → TermCells
variable_terms c = record { rows = c.rows; columns = c.columns; terms = map variable c.variables }

abbrev pub standing_of : State → Value → InTerm
standing_of s (Variable x) = Single (variable x)
standing_of s (Set xs) = Single (constant_set xs)
standing_of s (Variables n) = Several (variable_terms (variables_of s (Variables n)))
standing_of s (Array n) = Several (constants (cells_of s (Array n)))
standing_of s (Row xs) = Several (constants (cells_of s (Row xs)))
standing_of s v = Single (constant (number_of v))

unfoldable pub standing : Value → Act InTerm
standing v = λ s. Went (standing_of s v) s
