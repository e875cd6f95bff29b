-- A state without its data and what no pure expression sees of a search. A rule of this project.
use Rattle.std.specs.Prelude.{ℕ, []}
use Rattle.comet_meaning.specs.Search.{first_search}
use Rattle.comet_meaning.specs.State.{State}

-- with this fuel, no data, and the search of a run that begins with the seed 0
abbrev pub without_data : ℕ → State → State
without_data fuel s = record s { inputs = []; data_text = []; search = first_search 0; fuel = fuel }
