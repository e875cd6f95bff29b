-- What the code keeps of a search, as the meaning of programs has it. A rule of this project.
use Rattle.std.specs.Prelude.{List, Option, map, option_map}
use Rattle.checked_tree.specs.Tasks.{work_of_act}
use Rattle.comet_meaning.specs.Search as meant
use Rattle.ls_events.specs.declared.handlers.Handler.{Handler}
use Rattle.ls_events.specs.declared.queue.Event.{Event}
use Rattle.ls_events.specs.declared.solution.Solution.{Solution}
use Rattle.run_solvers.specs.OfRunValues.Views.{value_seen}
use Rattle.run_search.specs.declared.search.Closure.{Closure}
use Rattle.run_search.specs.declared.search.KeptMove.{KeptMove}
use Rattle.run_search.specs.declared.search.Reaction.{Reaction}
use Rattle.run_search.specs.declared.search.Search.{Search}

-- a statement that runs later
abbrev pub closure_seen : Closure → meant.Closure
closure_seen c = record { place = c.body.value.value.place; work = work_of_act c.body.value.value.act; frame = map value_seen c.frame.items }

-- the move that a selector keeps
abbrev pub move_seen : KeptMove → meant.KeptMove
move_seen m = record { delta = m.delta; closure = closure_seen m.closure }

unfoldable pub moves_seen : List (Option KeptMove) → List (Option meant.KeptMove)
moves_seen ms = map (option_map move_seen) ms

abbrev pub solution_seen : Solution → meant.Snapshot
solution_seen x = record { solver = x.solver; values = x.values }

abbrev pub reaction_seen : Reaction → meant.Reaction
reaction_seen r = record { names = r.names; closure = closure_seen r.closure }

abbrev pub handler_seen : Handler → meant.Handler
handler_seen h = record { variable = h.var; reaction = h.closure }

abbrev pub event_seen : Event → meant.Event
event_seen e = record { reaction = e.closure; old = e.old; new = e.new }

unfoldable pub search_seen : Search → meant.Search
search_seen x = record {
  seed = x.seed;
  words = x.draws;
  solutions = map solution_seen x.solutions.items;
  reactions = map reaction_seen x.reactions.items;
  handlers = map handler_seen x.handlers;
  queue = map event_seen x.queue;
  running = x.running;
}
