use Rattle.std.proofs.Common.{refl}
use Rattle.std.proofs.lemmas.Option.{slice_get_read}
use Rattle.replay_port.proofs.Taking.{odds_are}
use Rattle.replay_port.proofs.port.ReplayPort.differs.Goals as goal

pub returns-in-Ok-print_asked : goal.returns-in-Ok-print_asked
returns-in-Ok-print_asked c rest astray =
    let port = c.args.self.now in
    let found = c.in-Some.ensures.lookup in
    let here = slice_get_read port.entries.now _ port.replayed c.in-Some.next.now refl found.3.0 found.1 in
    (astray, odds_are port.entries.now port.replayed c.in-Some.next.now here port.loop_line port.iteration c.args.request.now c.in-Ok.asked c.in-Ok-print_asked.found c.in-Ok.ensures c.in-Ok-print_asked.ensures)
