-- There is no event left, or the first one runs.
use Rattle.std.proofs.Common.{refl}
use Rattle.comet_meaning.specs.Program.{level}
use Rattle.comet_meaning.proofs.GoingEvents.{goes_next_event}
use Rattle.comet_meaning.proofs.GoingStatements.{goes_level}
use Rattle.comet_meaning.proofs.QueueTurns.{takes_event}
use Rattle.event_forms.proofs.QueueLaws.{event_ends, event_went, no_event}
use Rattle.run_steps.specs.OfRunSearch.Searches.{event_seen, search_seen}
use Rattle.run_steps.specs.OfRunState.Views.{state_seen}
use Rattle.run_steps.proofs.Exits.{exit}
use Rattle.run_steps.proofs.Steps.{turn_ends, turn_goes_on, turn_spends, turn_stops}
use Rattle.event_forms.proofs.queue.run_events.Goals as goal

pub events-init : goal.events-init
events-init g c = record { left = refl }

pub returns-in-None : goal.returns-in-None
returns-in-None g c = record { did = turn_ends c.events.invariant (takes_event _ _) _ _ (no_event (level (g.W.Within.code c.args.inside.now) (g.W.Within.depth c.args.inside.now)) (state_seen c.events.s (g.O.Outside.told c.events.out)) (search_seen c.next_event.new.self) (rw c.in-None.is at c.next_event.ensures.first) c.next_event.ensures.left) }

pub returns-in_err-react-in-Some : goal.returns-in_err-react-in-Some
returns-in_err-react-in-Some g c = record { did = exit _ _ _ _ _ c.from_residual.ensures.1 (turn_stops c.events.invariant (takes_event _ _) (goes_next_event _ (goes_level _ _)) _ _ (event_ends (level (g.W.Within.code c.args.inside.now) (g.W.Within.depth c.args.inside.now)) (state_seen c.events.s (g.O.Outside.told c.events.out)) _ (search_seen c.next_event.new.self) (event_seen c.in-Some.event) _ (rw c.in-Some.is at c.next_event.ensures.first) c.next_event.ensures.left c.in_err-react-in-Some.ensures.did)) }

pub events-preserved : goal.events-preserved
events-preserved g c = turn_goes_on c.events.invariant (takes_event _ _) _ (event_went (level (g.W.Within.code c.args.inside.now) (g.W.Within.depth c.args.inside.now)) (state_seen c.events.s (g.O.Outside.told c.events.out)) _ (search_seen c.next_event.new.self) (event_seen c.in-Some.event) (rw c.in-Some.is at c.next_event.ensures.first) c.next_event.ensures.left c.in_ok-react-in-Some.ensures.did)

pub events-smaller : goal.events-smaller
events-smaller g c = turn_spends c.events.invariant (takes_event _ _) _ (event_went (level (g.W.Within.code c.args.inside.now) (g.W.Within.depth c.args.inside.now)) (state_seen c.events.s (g.O.Outside.told c.events.out)) _ (search_seen c.next_event.new.self) (event_seen c.in-Some.event) (rw c.in-Some.is at c.next_event.ensures.first) c.next_event.ensures.left c.in_ok-react-in-Some.ensures.did)
