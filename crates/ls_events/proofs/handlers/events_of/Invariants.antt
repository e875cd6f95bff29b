use Rattle.std.proofs.Common.{◌≡◌, take}
use Rattle.ls_events.specs.Queueing.{events_of}
use Rattle.ls_events.proofs.handlers.events_of.Given as goal

abbrev pub invariant-loop-change : goal.invariant-loop-change
invariant-loop-change l = l.events.items ≡ events_of l.handlers (take l.change-index l.changes)
