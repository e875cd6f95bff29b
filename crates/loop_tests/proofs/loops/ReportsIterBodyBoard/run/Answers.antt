use Rattle.std.proofs.Common.{◌≡◌, Bool, [], ◌∷◌, sym, ap, Ok}
use Rattle.parall_loop.specs.Iteration.{Asks, Ends}
use Rattle.loop_tests.specs.Asking.{asks_of}
use Rattle.loop_tests.proofs.Ran.{asked_one, ended}
use Rattle.loop_tests.proofs.loops.ReportsIterBodyBoard.run.Goals as goal

pub ask-requires : goal.ask-requires
ask-requires g c =
    let first : asks_of c.args.self.now.values.items c.args.iteration [] ≡ Asks c.in-Ok.request = ap (λ q. Asks q) (sym c.in-Ok.ensures) in
    c.requires [] c.in-Ok.request first

pub returns-in-Ok-ask-clause-ran : goal.returns-in-Ok-ask-clause-ran
returns-in-Ok-ask-clause-ran g c =
    let asks = asks_of c.args.self.now.values.items c.args.iteration in
    let first : asks_of c.args.self.now.values.items c.args.iteration [] ≡ Asks c.in-Ok.request = ap (λ q. Asks q) (sym c.in-Ok.ensures) in
    let over : asks_of c.args.self.now.values.items c.args.iteration (c.in-Ok-ask.reply ∷ []) ≡ Ends (Ok c.says_yes.result) = ap (λ (b : Bool). Ends (Ok b)) (sym c.says_yes.ensures) in
    let port = g.P.MonitorPort in
    ended asks (port.asked c.args.port) (port.rest c.args.port) ((c.in-Ok.request, c.in-Ok-ask.reply) ∷ []) (port.asked c.ask.new.self) (port.rest c.ask.new.self) (port.odds c.ask.new.self) (Ok c.says_yes.result)
    (asked_one asks (port.asked c.args.port) (port.rest c.args.port) c.in-Ok.request c.in-Ok-ask.reply (port.asked c.ask.new.self) (port.rest c.ask.new.self) first c.in-Ok-ask.ensures.asked c.in-Ok-ask.ensures.rest) over
