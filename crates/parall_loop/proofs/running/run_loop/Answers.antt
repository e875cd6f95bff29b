use Rattle.std.proofs.Common.{arith}
use Rattle.parall_loop.proofs.Ending.{leaves}
use Rattle.parall_loop.proofs.running.run_loop.Goals as goal

pub returns : goal.returns
returns g c =
    let left = leaves g.S.Replays.takes g.S.Replays.after g.S.Replays.answer c.in_ok-turn.turn c.in_ok-claims.claims (g.B.IterBody.asks c.args.body.now) g.B.IterBody.stop c.args.workers c.run_workers.new.first.seat c.run_workers.new.first.claimer c.in_ok-places.places.items c.in_ok-places.ensures c.close-state.result.0 c.close-state.result.1.items c.close-state.ensures c.close.ensures.once c.close.ensures.all (let some = c.requires.workers.0 in omega arith) c.args.state c.args.n c.in_ok-outcomes.outcomes.items c.in_ok-turn.ensures.turn.0 c.in_ok-claims.ensures.count c.in_ok-outcomes.ensures in
    record { legal = left.legal; state = left.fold; iterations = left.iterations; outcomes = left.outcomes_are; ran = left.ran; fits = left.fits; order = left.order }
