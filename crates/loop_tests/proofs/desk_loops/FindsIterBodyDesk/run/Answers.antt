use Rattle.std.proofs.Common.{◌≡◌, [], ◌∷◌, refl, sym, ap, Ok, Err}
use Rattle.best_monitor.specs.declared.port.PortStop.TheVariants.{NoMemory}
use Rattle.pool_monitor.specs.declared.request.DeskRequest.TheVariants.{Best, Pool}
use Rattle.parall_loop.specs.Iteration.{Asks, Ends}
use Rattle.loop_tests.specs.Asking.{asks_desk, add_of}
use Rattle.loop_tests.proofs.Ran.{asked_none, asked_one, asked_two, cut, cut_for_memory, ended}
use Rattle.loop_tests.proofs.desk_loops.FindsIterBodyDesk.run.Goals as goal

pub ask-requires : goal.ask-requires
ask-requires g c =
    let first : asks_desk c.args.self.now.values.items c.args.iteration [] ≡ Asks (Best c.in-Ok.report) = ap (λ q. Asks (Best q)) (sym c.in-Ok.ensures) in
    c.requires [] (Best c.in-Ok.report) first

pub returns-in-Err-clause-ran : goal.returns-in-Err-clause-ran
returns-in-Err-clause-ran g c =
    let port = g.P.MonitorPort in
    let asks = asks_desk c.args.self.now.values.items c.args.iteration in
    let first : asks_desk c.args.self.now.values.items c.args.iteration [] ≡ Asks (Best c.in-Ok.report) = ap (λ q. Asks (Best q)) (sym c.in-Ok.ensures) in
    let none = asked_none asks (port.asked c.args.port) (port.rest c.args.port) in
    cut asks (port.asked c.args.port) (port.rest c.args.port) [] (port.asked c.args.port) (port.rest c.args.port) (port.asked c.ask.new.self) (port.rest c.ask.new.self) (port.odds c.args.port) (port.odds c.ask.new.self) (Best c.in-Ok.report) c.in-Err.stop (Err c.in-Err.stop)
    none first c.in-Err.ensures.asked c.in-Err.ensures.rest c.in-Err.ensures.stop c.in-Err.ensures.odds

pub returns-in_default-add-clause-ran : goal.returns-in_default-add-clause-ran
returns-in_default-add-clause-ran g c =
    let port = g.P.MonitorPort in
    let asks = asks_desk c.args.self.now.values.items c.args.iteration in
    let first : asks_desk c.args.self.now.values.items c.args.iteration [] ≡ Asks (Best c.in-Ok.report) = ap (λ q. Asks (Best q)) (sym c.in-Ok.ensures) in
    let one = asked_one asks (port.asked c.args.port) (port.rest c.args.port) (Best c.in-Ok.report) c.in-Ok-ask.reply (port.asked c.ask.new.self) (port.rest c.ask.new.self) first c.in-Ok-ask.ensures.asked c.in-Ok-ask.ensures.rest in
    cut_for_memory asks (port.asked c.args.port) (port.rest c.args.port) ((Best c.in-Ok.report, c.in-Ok-ask.reply) ∷ []) (port.asked c.ask.new.self) (port.rest c.ask.new.self) (port.odds c.ask.new.self) (Pool (add_of c.args.self.now.values.items c.args.iteration)) (Err NoMemory) one refl

pub ask-requires-2 : goal.ask-requires-2
ask-requires-2 g c =
    let second : asks_desk c.args.self.now.values.items c.args.iteration (c.in-Ok-ask.reply ∷ []) ≡ Asks (Pool c.in-Ok-add.add) = ap (λ q. Asks (Pool q)) (sym c.in-Ok-add.ensures) in
    (c.ask.ensures.takes (Pool c.in-Ok-add.add)).1 (c.requires (c.in-Ok-ask.reply ∷ []) (Pool c.in-Ok-add.add) second)

pub returns-in-Ok-ask-2-clause-ran : goal.returns-in-Ok-ask-2-clause-ran
returns-in-Ok-ask-2-clause-ran g c =
    let port = g.P.MonitorPort in
    let asks = asks_desk c.args.self.now.values.items c.args.iteration in
    let first : asks_desk c.args.self.now.values.items c.args.iteration [] ≡ Asks (Best c.in-Ok.report) = ap (λ q. Asks (Best q)) (sym c.in-Ok.ensures) in
    let second : asks_desk c.args.self.now.values.items c.args.iteration (c.in-Ok-ask.reply ∷ []) ≡ Asks (Pool c.in-Ok-add.add) = ap (λ q. Asks (Pool q)) (sym c.in-Ok-add.ensures) in
    let over : asks_desk c.args.self.now.values.items c.args.iteration (c.in-Ok-ask.reply ∷ c.in-Ok-ask-2.second ∷ []) ≡ Ends (Ok (c.says_yes.result, c.says_yes-in-Ok-ask-2.result)) = λ i. Ends (Ok (sym c.says_yes.ensures i, sym c.says_yes-in-Ok-ask-2.ensures i)) in
    let one = asked_one asks (port.asked c.args.port) (port.rest c.args.port) (Best c.in-Ok.report) c.in-Ok-ask.reply (port.asked c.ask.new.self) (port.rest c.ask.new.self) first c.in-Ok-ask.ensures.asked c.in-Ok-ask.ensures.rest in
    let two = asked_two asks (port.asked c.args.port) (port.rest c.args.port) (Best c.in-Ok.report) (Pool c.in-Ok-add.add) c.in-Ok-ask.reply c.in-Ok-ask-2.second (port.asked c.ask.new.self) (port.rest c.ask.new.self) (port.asked c.ask-2.new.self) (port.rest c.ask-2.new.self) one second c.in-Ok-ask-2.ensures.asked c.in-Ok-ask-2.ensures.rest in
    ended asks (port.asked c.args.port) (port.rest c.args.port) ((Best c.in-Ok.report, c.in-Ok-ask.reply) ∷ (Pool c.in-Ok-add.add, c.in-Ok-ask-2.second) ∷ []) (port.asked c.ask-2.new.self) (port.rest c.ask-2.new.self) (port.odds c.ask-2.new.self) (Ok (c.says_yes.result, c.says_yes-in-Ok-ask-2.result)) two over

pub returns-clause-ran : goal.returns-clause-ran
returns-clause-ran g c =
    let port = g.P.MonitorPort in
    let asks = asks_desk c.args.self.now.values.items c.args.iteration in
    let first : asks_desk c.args.self.now.values.items c.args.iteration [] ≡ Asks (Best c.in-Ok.report) = ap (λ q. Asks (Best q)) (sym c.in-Ok.ensures) in
    let second : asks_desk c.args.self.now.values.items c.args.iteration (c.in-Ok-ask.reply ∷ []) ≡ Asks (Pool c.in-Ok-add.add) = ap (λ q. Asks (Pool q)) (sym c.in-Ok-add.ensures) in
    let one = asked_one asks (port.asked c.args.port) (port.rest c.args.port) (Best c.in-Ok.report) c.in-Ok-ask.reply (port.asked c.ask.new.self) (port.rest c.ask.new.self) first c.in-Ok-ask.ensures.asked c.in-Ok-ask.ensures.rest in
    cut asks (port.asked c.args.port) (port.rest c.args.port) ((Best c.in-Ok.report, c.in-Ok-ask.reply) ∷ []) (port.asked c.ask.new.self) (port.rest c.ask.new.self) (port.asked c.ask-2.new.self) (port.rest c.ask-2.new.self) (port.odds c.ask.new.self) (port.odds c.ask-2.new.self) (Pool c.in-Ok-add.add) c.in-Err-ask.stop (Err c.in-Err-ask.stop)
    one second c.in-Err-ask.ensures.asked c.in-Err-ask.ensures.rest c.in-Err-ask.ensures.stop c.in-Err-ask.ensures.odds
