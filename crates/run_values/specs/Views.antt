-- The code's values, as the meaning of programs has them. A rule of this project.
use Rattle.std.specs.Prelude.{option_map}
use Rattle.comet_meaning.specs.Aggregates as aggregates
use Rattle.comet_meaning.specs.Values as values
use Rattle.comet_meaning.specs.State as states
use Rattle.run_values.specs.declared.aggregates.Element.{Element}
use Rattle.run_values.specs.declared.values.Bounds.{Bounds}
use Rattle.run_values.specs.declared.values.Cells.{Cells}
use Rattle.run_values.specs.declared.values.Extent.{Extent}
use Rattle.run_values.specs.declared.values.Value.{Value}
use Rattle.run_values.specs.declared.values.VariableCells.{VariableCells}
use Rattle.run_values.specs.declared.values.Value.TheVariants.{Nothing, Number, Truth, Range, Set, Array, Row, Variable, Variables, Solver, System, Objective, Input, Distribution, Selector, Move, Solution}

abbrev pub bounds_seen : Bounds → values.Bounds
bounds_seen b = record { low = b.low; up = b.up }

abbrev pub value_seen : Value → values.Value
value_seen Nothing = values.Nothing
value_seen (Number z) = values.Number z
value_seen (Truth b) = values.Truth b
value_seen (Range b) = values.Range (bounds_seen b)
value_seen (Set s) = values.Set s
value_seen (Array n) = values.Array n
value_seen (Row xs) = values.Row xs.items
value_seen (Variable x) = values.Variable x
value_seen (Variables n) = values.Variables n
value_seen (Solver m) = values.Solver m
value_seen (System m k) = values.System m k
value_seen (Objective m k) = values.Objective m k
value_seen (Input k) = values.Input k
value_seen (Distribution b) = values.Distribution (bounds_seen b)
value_seen (Selector n) = values.Selector n
value_seen (Move n) = values.Move n
value_seen (Solution n) = values.Solution n

abbrev pub cells_seen : Cells → states.Cells
cells_seen c = record { rows = bounds_seen c.rows; columns = option_map bounds_seen c.columns; numbers = c.numbers.items }

abbrev pub variable_cells_seen : VariableCells → states.VariableCells
variable_cells_seen c = record { rows = bounds_seen c.rows; columns = option_map bounds_seen c.columns; variables = c.variables.items }

abbrev pub extent_seen : Extent → values.Extent
extent_seen e = record { rows = bounds_seen e.rows; columns = option_map bounds_seen e.columns }

abbrev pub element_seen : Element → aggregates.Element
element_seen x = record { key = x.key; value = value_seen x.value }
