use Rattle.std.proofs.Common.{◌≡◌, true, false, refl, sym, ◌∙◌, Some, drop}
use Rattle.std.proofs.lemmas.Option.{slice_get_read}
use Rattle.replay_port.specs.Lines.{lines_of, pairs_of}
use Rattle.replay_port.proofs.Taking.{asked_is, goes_on, goes_astray, next_had}
use Rattle.replay_port.proofs.port.ReplayPortMonitorPortDesk.ask.Goals as goal

pub returns-then-not-is_same-clause-stop : goal.returns-then-not-is_same-clause-stop
returns-then-not-is_same-clause-stop c =
    let port = c.args.self.now in
    let found = c.in-Some.ensures.lookup in
    let here = slice_get_read port.entries.now _ port.replayed c.in-Some.next.now refl found.3.0 found.1 in
    c.differs-then-not-is_same.ensures (Some (drop port.replayed (pairs_of (lines_of port.entries.now)))) (goes_astray port.entries.now port.replayed c.in-Some.next.now here c.args.request (λ same. let both : true ≡ false = sym (c.is_same.ensures.1 same) ∙ c.if-not-is_same.true in cc))

pub returns-clause-asked : goal.returns-clause-asked
returns-clause-asked c =
    let port = c.args.self.now in
    let found = c.in-Some.ensures.lookup in
    let here = slice_get_read port.entries.now _ port.replayed c.in-Some.next.now refl found.3.0 found.1 in
    asked_is port.entries.now port.replayed c.in-Some.next.now here c.args.request c.in-Ok.reply (c.is_same.ensures.0 c.if-not-is_same.false) c.in-Ok.ensures

pub returns-clause-rest : goal.returns-clause-rest
returns-clause-rest c =
    let port = c.args.self.now in
    let found = c.in-Some.ensures.lookup in
    let here = slice_get_read port.entries.now _ port.replayed c.in-Some.next.now refl found.3.0 found.1 in
    goes_on port.entries.now port.replayed c.in-Some.next.now here c.args.request c.in-Ok.reply (c.is_same.ensures.0 c.if-not-is_same.false) c.in-Ok.ensures

pub returns-clause-had : goal.returns-clause-had
returns-clause-had c =
    let port = c.args.self.now in
    let found = c.in-Some.ensures.lookup in
    let here = slice_get_read port.entries.now _ port.replayed c.in-Some.next.now refl found.3.0 found.1 in
    next_had port.entries.now port.replayed c.in-Some.next.now here c.args.request c.in-Ok.reply port.had (c.is_same.ensures.0 c.if-not-is_same.false) c.in-Ok.ensures
