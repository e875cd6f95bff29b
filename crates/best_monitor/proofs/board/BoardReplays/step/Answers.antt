use Rattle.std.proofs.Common.{◌≡◌, ◌<◌, length, set, refl, ap, subst, arith, Some, MatchResult}
use Rattle.std.proofs.lemmas.Option.{slice_get_read}
use Rattle.best_monitor.specs.Board.{monitor_of, board_step}
use Rattle.best_monitor.proofs.Steps.{steps}
use Rattle.best_monitor.proofs.board.BoardReplays.step.Goals as goal

pub returns-clause-step : goal.returns-clause-step
returns-clause-step c =
    let items = c.self.inside.monitors.items in
    let named = c.monitor.ensures in
    let long : length items ≡ length c.args.self.now = ap length c.self.view_is in
    let declared : monitor_of c.args.request.now < length c.args.self.now = c.requires in
    let within : c.monitor.result < length items = omega arith in
    subst (λ board. MatchResult c.step.result (λ r. board_step board c.args.request.now ≡ Some (set items c.monitor.result c.step.new.self, r)) (λ _. set items c.monitor.result c.step.new.self ≡ board)) c.self.view_is
    (steps items c.args.request.now c.monitor.result c.index_mut-monitor.result.now c.step.new.self c.step.result named (slice_get_read items (length items) c.monitor.result c.index_mut-monitor.result.now refl within c.index_mut-monitor.ensures.value) c.step.ensures.step)
