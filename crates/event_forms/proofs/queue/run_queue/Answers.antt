-- A commit runs it already, or it is run.
use Rattle.std.proofs.Common.{sym, ◌∙◌}
use Rattle.comet_meaning.specs.Program.{level}
use Rattle.event_forms.proofs.QueueLaws.{queue_idle, queue_runs}
use Rattle.run_steps.specs.OfRunState.Views.{state_seen}
use Rattle.event_forms.proofs.queue.run_queue.Goals as goal

pub returns-then-is_running : goal.returns-then-is_running
returns-then-is_running g c = record { did = queue_idle (level (g.W.Within.code c.args.inside.now) (g.W.Within.depth c.args.inside.now)) c.args.at (state_seen c.args.s.now (g.O.Outside.told c.args.out.now)) (sym c.is_running.ensures ∙ c.if-is_running.true) }

pub returns : goal.returns
returns g c = record { did = rw (queue_runs (level (g.W.Within.code c.args.inside.now) (g.W.Within.depth c.args.inside.now)) c.args.at (state_seen c.args.s.now (g.O.Outside.told c.args.out.now)) (sym c.is_running.ensures ∙ c.if-is_running.false)) c.run_all.ensures.did }
