-- The run of the queue ended the run of the program, or the queue was run.
use Rattle.comet_meaning.specs.Program.{level}
use Rattle.event_forms.proofs.QueueLaws.{all_run, all_stops}
use Rattle.run_steps.specs.OfRunState.Views.{state_seen}
use Rattle.run_steps.proofs.Exits.{exit}
use Rattle.event_forms.proofs.queue.run_all.Goals as goal

pub returns-in_err-run_events : goal.returns-in_err-run_events
returns-in_err-run_events g c = record { did = exit _ _ _ _ _ c.from_residual.ensures.1 (all_stops (level (g.W.Within.code c.args.inside.now) (g.W.Within.depth c.args.inside.now)) c.args.at (state_seen c.args.s.now (g.O.Outside.told c.args.out.now)) _ _ (rw c.set_running.ensures at c.in_err-run_events.ensures.did)) }

pub returns : goal.returns
returns g c = record { did = rw c.set_running-2.ensures (all_run (level (g.W.Within.code c.args.inside.now) (g.W.Within.depth c.args.inside.now)) c.args.at (state_seen c.args.s.now (g.O.Outside.told c.args.out.now)) _ (rw c.set_running.ensures at c.in_ok-run_events.ensures.did)) }
