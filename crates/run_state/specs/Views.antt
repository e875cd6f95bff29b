-- The code's state, as the meaning of programs has it; what was printed, the solvers and the users' constraints stand outside. A rule of this project.
use Rattle.std.specs.Prelude.{drop, map}
use Rattle.comet_meaning.specs.State.{State}
use Rattle.run_values.specs.Views.{value_seen, cells_seen, variable_cells_seen}
use Rattle.run_search.specs.Searches.{moves_seen, search_seen}
use Rattle.run_outside.specs.Told.{Told}
use Rattle.run_state.specs.declared.state.State.{State as declared}

abbrev pub state_seen : declared → Told → State
state_seen s t = record {
  globals = map value_seen s.globals.items;
  frame = map value_seen s.frame.items;
  arrays = map cells_seen s.arrays.items;
  variable_arrays = map variable_cells_seen s.variable_arrays.items;
  solvers = t.solvers;
  inputs = map (λ n. drop n s.data.items) s.inputs.items;
  data_text = s.data.items;
  moves = moves_seen s.moves.items;
  search = search_seen s.search;
  users = t.users;
  fuel = s.fuel;
  printed = t.printed;
}
