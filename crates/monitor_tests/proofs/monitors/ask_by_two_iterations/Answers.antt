use Rattle.std.proofs.Common.{◌∙◌}
use Rattle.monitor_tests.proofs.Opened.{opened_over}
use Rattle.monitor_tests.proofs.monitors.ask_by_two_iterations.Goals as goal

pub returns-clause-seat : goal.returns-clause-seat
returns-clause-seat g c =
    let one = opened_over c.args.turn.now c.ask_twice.new.port.iteration c.new-port.result.iteration c.args.seat c.new-port.result.opened.value c.ask_twice.new.port.opened.value c.into_seat-seat.result c.new-port.ensures.opened c.ask_twice.ensures.base c.into_seat-seat.ensures.since c.requires.seat in
    let two = opened_over c.args.turn.now c.ask_twice-2.new.port.iteration c.new-port-2.result.iteration c.into_seat-seat.result c.new-port-2.result.opened.value c.ask_twice-2.new.port.opened.value c.into_seat.result c.new-port-2.ensures.opened c.ask_twice-2.ensures.base c.into_seat.ensures.since one.0 in
    (two.0, two.1 ∙ one.1, two.2 ∙ one.2)
