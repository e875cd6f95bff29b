use Rattle.comet_meaning.specs.Events.{next_event}
use Rattle.comet_meaning.specs.Loops.{repeated}
use Rattle.comet_meaning.specs.Program.{level}
use Rattle.run_steps.specs.OfRunState.Views.{state_seen}
use Rattle.run_steps.proofs.Steps.{TurnsLeft}
use Rattle.event_forms.proofs.queue.run_events.Given as goal

-- the events that are left, from here, are the run of the queue from the start
abbrev pub invariant-events : goal.invariant-events
invariant-events g l =
    TurnsLeft l.fn.at (next_event (level (g.W.Within.code l.inside) (g.W.Within.depth l.inside))) (state_seen l.s (g.O.Outside.told l.out)) (repeated l.fn.at (next_event (level (g.W.Within.code l.inside) (g.W.Within.depth l.inside))) (state_seen l.fn.s (g.O.Outside.told l.fn.out)))

abbrev pub decreases-events : goal.decreases-events
decreases-events g l = l.s.fuel
