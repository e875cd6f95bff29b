-- Changes are queued one after another: each gives an event for each handler of its variable, in the order in which
-- these were added. The first event of a queue is the next. A rule of this project.
use Rattle.std.specs.Prelude.{Bool, ◌&&◌, List, [], ◌∷◌, Option, Some, None, filter, flat_map, map, nat_eq}
use Rattle.cbl_base.specs.declared.ids.VarId.{VarId}
use Rattle.ls_events.specs.declared.change.VarChange.{VarChange}
use Rattle.ls_events.specs.declared.handlers.Handler.{Handler}
use Rattle.ls_events.specs.declared.queue.Event.{Event}

abbrev pub is_of : VarId → Handler → Bool
is_of x h = nat_eq h.var.solver x.solver && nat_eq h.var.index x.index

abbrev pub event_of : VarChange → Handler → Event
event_of change h = record { closure = h.closure; old = change.old; new = change.new }

-- the events of one change
abbrev pub events_at : List Handler → VarChange → List Event
events_at handlers change = map (event_of change) (filter (is_of change.var) handlers)

-- the events of all changes
abbrev pub events_of : List Handler → List VarChange → List Event
events_of handlers changes = flat_map (events_at handlers) changes

-- the next event, and the queue without it
abbrev pub next_of : List Event → Option Event × List Event
next_of [] = (None, [])
next_of (e ∷ rest) = (Some e, rest)
