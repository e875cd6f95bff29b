use Rattle.std.specs.Prelude.{[]}
use Rattle.interpreter.specs.OfRunSteps.Views.{code_seen, part}
use Rattle.run_standing.specs.Seen.{standing_seen}
use Rattle.run_standing.specs.OfRunState.Views.{state_seen}
use Rattle.stmt_expr.proofs.Apart.{spends_known, evaluated_apart}
use Rattle.stmt_expr.proofs.evaluation.eval.Goals as goal

pub returns : goal.returns
returns g c = λ printed.
    let s = standing_seen c.args.standing.now printed in
    rw c.handed_on.ensures
    (evaluated_apart _ (spends_known (code_seen c.args.code.now) c.requires.known c.args.room (part c.args.e.now) c.requires.pure) s c.args.fuel.now.left c.evaluate-answer.result
    (state_seen c.evaluate-answer.new.s (record { printed = []; solvers = c.evaluate-answer.new.out.solvers.now; users = [] })) _
    (c.in-Ok.ensures.same (record { printed = []; solvers = c.args.standing.now.solvers; users = [] })) c.evaluate-answer.ensures.did)
