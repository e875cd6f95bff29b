use Rattle.std.proofs.Common.{◌≡◌, length, subst, sym, ap, ◌∙◌, arith}
use Rattle.std.specs.Vec.Iter.{into_iter_items}
use Rattle.parall_loop.specs.Runs.{HasTakenIn}
use Rattle.parall_loop.proofs.Taking.{none_taken, taken_in}
use Rattle.parall_loop.proofs.Ending.{have_places}
use Rattle.parall_loop.proofs.running.run_workers.Goals as goal

pub loop-one-init : goal.loop-one-init
loop-one-init g c =
    let gives = c.into_iter-one-iterator.ensures.into_iter_gives in
    let size : length (into_iter_items c.into_iter-one-iterator.result) ≡ c.args.workers = ap (λ l. length l) gives.0 ∙ (let all = c.in_ok-worked.worked.ok.0 in let many = c.in_ok-worked.ensures.count in let few = c.in_ok-seated.ensures.count in omega arith) in
    record {
      taken = subst (λ n. HasTakenIn c.args.turn.now c.args.claims.now (g.B.IterBody.asks c.args.body.now) g.B.IterBody.stop c.args.workers n c.seat_workers.new.first.seat c.seat_workers.new.first.claimer c.in_ok-places.places.items) (sym size)
          (none_taken c.args.turn.now c.args.claims.now (g.B.IterBody.asks c.args.body.now) g.B.IterBody.stop c.args.workers c.seat_workers.new.first.seat c.seat_workers.new.first.claimer c.in_ok-places.places.items c.in_ok-seated.ensures.split (c.in_ok-places.ensures ∙ sym c.requires.count));
      left = rw gives.0 c.in_ok-worked.ensures.ended;
    }

pub take_in-requires-clause-places : goal.take_in-requires-clause-places
take_in-requires-clause-places g c =
    let left = rw c.in-Some.ensures.steps.0 at c.loop-one.invariant.left in
    let ended = rw c.in-Some-one.is at left.0 in
    have_places c.args.turn.now c.args.claims.now (g.B.IterBody.asks c.args.body.now) g.B.IterBody.stop c.args.workers (length (into_iter_items c.loop-one.one-iterator)) c.loop-one.first.seat c.in-Some-one.worked.seat c.loop-one.first.claimer c.in-Some-one.worked.claimer c.loop-one.places.items c.in-Some-one.worked.outcomes.items c.loop-one.invariant.taken ended

pub loop-one-preserved : goal.loop-one-preserved
loop-one-preserved g c =
    let left = rw c.in-Some.ensures.steps.0 at c.loop-one.invariant.left in
    let ended = rw c.in-Some-one.is at left.0 in
    let taken = rw c.in-Some.ensures.steps.0 at c.loop-one.invariant.taken in
    let told = c.take_in.ensures in
    record {
      taken = taken_in c.args.turn.now c.args.claims.now (g.B.IterBody.asks c.args.body.now) g.B.IterBody.stop c.args.workers (length (into_iter_items c.next.new.self)) c.loop-one.first.seat c.in-Some-one.worked.seat c.take_in.new.first.seat c.loop-one.first.claimer c.in-Some-one.worked.claimer c.take_in.new.first.claimer c.loop-one.places.items c.take_in.new.places.items c.in-Some-one.worked.outcomes.items
          taken ended told.seat.0 told.seat.1 told.claimer.0 told.claimer.1 told.claimer.2 told.claimer.3 told.places;
      left = left.1;
    }
