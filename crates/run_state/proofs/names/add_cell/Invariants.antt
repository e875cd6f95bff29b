-- Cells that hold nothing change nothing of what the write makes.
use Rattle.std.proofs.Common.{◌≡◌, ◌≤◌, ◌-◌, length, map}
use Rattle.comet_meaning.specs.Cells.{with_cell}
use Rattle.run_values.specs.Views.{value_seen}
use Rattle.run_state.proofs.names.add_cell.Given as goal

abbrev pub invariant-loop-cells : goal.invariant-loop-cells
invariant-loop-cells l = record {
  short : length l.cells.items ≤ l.index;
  same : l.value ≡ l.fn.value;
  written : with_cell l.index (value_seen l.fn.value) (map value_seen l.cells.items) ≡ with_cell l.index (value_seen l.fn.value) (map value_seen l.fn.cells.items);
}

abbrev pub decreases-loop-cells : goal.decreases-loop-cells
decreases-loop-cells l = l.index - length l.cells.items
