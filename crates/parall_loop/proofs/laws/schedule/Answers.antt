use Rattle.parall_loop.proofs.Schedules.{schedules}
use Rattle.parall_loop.proofs.laws.schedule.Goals as goal

pub returns : goal.returns
returns g c start asks n may = schedules g.S.Replays.takes g.S.Replays.after g.S.Replays.answer start asks n g.met.S.Replays.takes_same may
