use Rattle.std.proofs.Common.{[], ◌∷◌, ◌++◌, subst, sym, ap, ◌∙◌}
use Rattle.parall_loop.specs.Runs.{HasRun}
use Rattle.parall_loop.proofs.Drawing.{nothing_run, one_run}
use Rattle.parall_loop.proofs.worker.work.Goals as goal

pub loop-init : goal.loop-init
loop-init g c = (
  tt,
  tt,
  subst (λ l. HasRun c.args.turn.now c.args.claims.now (g.B.IterBody.asks c.args.body.now) g.B.IterBody.stop c.args.worker.seat c.args.worker.claimer l) (sym c.new-outcomes.ensures.items) (nothing_run c.args.turn.now c.args.claims.now (g.B.IterBody.asks c.args.body.now) g.B.IterBody.stop c.args.worker.seat c.args.worker.claimer c.requires.fresh),
)

pub loop-preserved : goal.loop-preserved
loop-preserved g c =
    let claimed = c.in-Some-claim.ensures.number in
    let ran = c.run_iteration-next in
    let next = one_run c.args.turn.now c.args.claims.now (g.B.IterBody.asks c.args.body.now) g.B.IterBody.stop c.loop.seat ran.result.0 c.loop.claimer c.claim.new.self c.loop.outcomes.items c.in-Some-claim.iteration ran.result.1 c.loop.invariant.2 c.claim.ensures.seat.0 c.claim.ensures.seat.1 claimed.0 claimed.1 claimed.2 ran.ensures.seat.0 ran.ensures.seat.1 ran.ensures.made in (
      tt,
      tt,
      subst (λ l. HasRun c.args.turn.now c.args.claims.now (g.B.IterBody.asks c.args.body.now) g.B.IterBody.stop ran.result.0 c.claim.new.self l) (sym (c.push_reserved.ensures.items ∙ ap (λ l. l ++ (c.in-Some-claim.iteration, ran.result.1) ∷ []) c.reserve.ensures.items)) next,
    )
