use Rattle.std.proofs.Common.{arith, ◌<◌}
use Rattle.parall_loop.specs.declared.worker.Worker.{Worker}
use Rattle.parall_loop.specs.Runs.{IsFresh}
use Rattle.parall_loop.proofs.Splitting.{one_split, all_pushed}
use Rattle.parall_loop.proofs.running.seat_workers.Goals as goal

pub loop-worker-preserved : goal.loop-worker-preserved
loop-worker-preserved g c =
    let inv = c.loop-worker.invariant in
    let few : c.loop-worker._worker < 64 = (let next = c.loop-worker-test.true in let most = c.requires.few in omega arith) in
    let step = one_split c.args.turn.now c.args.claims.now c.loop-worker._worker c.loop-worker.first.seat c.split-seat.new.self c.split-seat.result c.loop-worker.first.claimer c.split-claimer.new.self c.split-claimer.result few inv.split c.split-seat.ensures.seats c.split-seat.ensures.views c.split-claimer.ensures.seats c.split-claimer.ensures.given c.split-claimer.ensures.drawn in
    record {
      split = step.0;
      fresh = all_pushed (λ (w : Worker g.row.S.Denot g.row.S-Request.Denot g.row.S-Reply.Denot). IsFresh c.args.turn.now c.args.claims.now w.seat w.claimer) _ _ _ c.in-Ok.ensures.items inv.fresh step.1;
      count = (let longer = c.in-Ok.ensures.len in let before = inv.count in omega arith);
    }
