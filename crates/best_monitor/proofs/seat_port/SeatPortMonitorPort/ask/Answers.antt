use Rattle.best_turn.specs.Seats.{view_of}
use Rattle.best_monitor.proofs.Asked.{asked_more}
use Rattle.best_monitor.proofs.seat_port.SeatPortMonitorPort.ask.Goals as goal

pub returns-in-Ok-clause-asked : goal.returns-in-Ok-clause-asked
returns-in-Ok-clause-asked g c =
    let port = c.args.self.now in
    let call = c.in-Ok.ensures.call in
    asked_more port.iteration c.args.request c.in-Ok.reply (view_of port.opened.value).made (view_of port.seat).made (view_of c.call.new.self).made port.since.made call.own.0 call.made
