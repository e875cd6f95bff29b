use Rattle.std.proofs.Common.{◌≡◌, ◌++◌, take}
use Rattle.ls_events.specs.Queueing.{events_at}
use Rattle.ls_events.proofs.handlers.add_events.Given as goal

abbrev pub invariant-loop-handler : goal.invariant-loop-handler
invariant-loop-handler l = l.events.items ≡ l.initial.events.items ++ events_at (take l.handler-index l.handlers) l.change
