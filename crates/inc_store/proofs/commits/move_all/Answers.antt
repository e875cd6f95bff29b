use Rattle.std.proofs.Common.{ℤ, pos, ◌+◌, ◌-◌, ◌*◌, ◌<◌, List, length, drop, get_or, sym, ◌∙◌, subst, arith}
use Rattle.cbl_base.specs.declared.ids.VarId.{VarId}
use Rattle.store_turns.specs.Meaning.{graph_of}
use Rattle.inc_store.specs.Course.{InCourse, first_front}
use Rattle.inc_store.specs.Moves.{AreMoves, LaterThanMoves}
use Rattle.inc_store.proofs.MoveSteps.{drop_at, drop_all, moves_left, target_at, in_frame, kind_move, unlost_move, limit_move, move_step, moves_over}
use Rattle.inc_store.proofs.CourseTurn.{limit_course}
use Rattle.inc_store.proofs.commits.move_all.Goals as goal

pub settle-requires-clause-kinds : goal.settle-requires-clause-kinds
settle-requires-clause-kinds g c = λ x is.
    let lt : c.loop-var.var-index < length c.args.moves.now = omega arith in
    let eq = drop_at c.args.moves.now c.loop-var.var-index (record { solver = 0; index = 0 }, pos 0) lt in
    let are = subst (λ (rest : List (VarId × ℤ)). AreMoves (graph_of g.given.rules c.args.frame.now) rest) eq (moves_left (graph_of g.given.rules c.args.frame.now) c.args.moves.now c.loop-var.var-index c.requires.1.1.0) in
    let state = subst (λ (rest : List (VarId × ℤ)). InCourse g.given.rules g.given.helds c.args.frame.now g.given.trace c.loop-var.cells c.loop-var.course (LaterThanMoves c.args.frame.now rest) (c.loop-var.steps + 2 * (length c.args.moves.now - c.loop-var.var-index) + 1)) eq c.loop-var.invariant.course in
    kind_move g.given.rules c.args.frame.now g.given.trace c.requires.1.0 g.given.helds c.loop-var.cells c.loop-var.cells c.loop-var.course c.loop-var.course (c.loop-var.steps + 2 * (length c.args.moves.now - c.loop-var.var-index) + 1) (c.loop-var.steps + 2 * (length c.args.moves.now - c.loop-var.var-index) + 1) (get_or c.args.moves.now c.loop-var.var-index (record { solver = 0; index = 0 }, pos 0)) (drop (c.loop-var.var-index + 1) c.args.moves.now) are state x (sym c.number_outcome.ensures ∙ is)

pub settle-requires-clause-unlost : goal.settle-requires-clause-unlost
settle-requires-clause-unlost g c =
    let lt : c.loop-var.var-index < length c.args.moves.now = omega arith in
    let eq = drop_at c.args.moves.now c.loop-var.var-index (record { solver = 0; index = 0 }, pos 0) lt in
    let are = subst (λ (rest : List (VarId × ℤ)). AreMoves (graph_of g.given.rules c.args.frame.now) rest) eq (moves_left (graph_of g.given.rules c.args.frame.now) c.args.moves.now c.loop-var.var-index c.requires.1.1.0) in
    let state = subst (λ (rest : List (VarId × ℤ)). InCourse g.given.rules g.given.helds c.args.frame.now g.given.trace c.loop-var.cells c.loop-var.course (LaterThanMoves c.args.frame.now rest) (c.loop-var.steps + 2 * (length c.args.moves.now - c.loop-var.var-index) + 1)) eq c.loop-var.invariant.course in
    unlost_move g.given.rules c.args.frame.now g.given.trace c.requires.1.0 g.given.helds c.loop-var.cells c.loop-var.cells c.loop-var.course c.loop-var.course (c.loop-var.steps + 2 * (length c.args.moves.now - c.loop-var.var-index) + 1) (c.loop-var.steps + 2 * (length c.args.moves.now - c.loop-var.var-index) + 1) (get_or c.args.moves.now c.loop-var.var-index (record { solver = 0; index = 0 }, pos 0)) (drop (c.loop-var.var-index + 1) c.args.moves.now) are state

pub settle-requires-clause-within : goal.settle-requires-clause-within
settle-requires-clause-within g c =
    let lt : c.loop-var.var-index < length c.args.moves.now = omega arith in
    let eq = drop_at c.args.moves.now c.loop-var.var-index (record { solver = 0; index = 0 }, pos 0) lt in
    let are = subst (λ (rest : List (VarId × ℤ)). AreMoves (graph_of g.given.rules c.args.frame.now) rest) eq (moves_left (graph_of g.given.rules c.args.frame.now) c.args.moves.now c.loop-var.var-index c.requires.1.1.0) in
    let state = subst (λ (rest : List (VarId × ℤ)). InCourse g.given.rules g.given.helds c.args.frame.now g.given.trace c.loop-var.cells c.loop-var.course (LaterThanMoves c.args.frame.now rest) (c.loop-var.steps + 2 * (length c.args.moves.now - c.loop-var.var-index) + 1)) eq c.loop-var.invariant.course in
    let inside = in_frame g.given.rules c.args.frame.now g.given.trace c.requires.1.0 g.given.helds c.loop-var.cells c.loop-var.cells c.loop-var.course c.loop-var.course (c.loop-var.steps + 2 * (length c.args.moves.now - c.loop-var.var-index) + 1) (c.loop-var.steps + 2 * (length c.args.moves.now - c.loop-var.var-index) + 1) (get_or c.args.moves.now c.loop-var.var-index (record { solver = 0; index = 0 }, pos 0)) (drop (c.loop-var.var-index + 1) c.args.moves.now) are state in let many = state.many_cells in omega (arith, inside, many)

pub settle-requires-clause-lists : goal.settle-requires-clause-lists
settle-requires-clause-lists g c =
    let lt : c.loop-var.var-index < length c.args.moves.now = omega arith in
    let eq = drop_at c.args.moves.now c.loop-var.var-index (record { solver = 0; index = 0 }, pos 0) lt in
    let are = subst (λ (rest : List (VarId × ℤ)). AreMoves (graph_of g.given.rules c.args.frame.now) rest) eq (moves_left (graph_of g.given.rules c.args.frame.now) c.args.moves.now c.loop-var.var-index c.requires.1.1.0) in
    let state = subst (λ (rest : List (VarId × ℤ)). InCourse g.given.rules g.given.helds c.args.frame.now g.given.trace c.loop-var.cells c.loop-var.course (LaterThanMoves c.args.frame.now rest) (c.loop-var.steps + 2 * (length c.args.moves.now - c.loop-var.var-index) + 1)) eq c.loop-var.invariant.course in
    let inside = in_frame g.given.rules c.args.frame.now g.given.trace c.requires.1.0 g.given.helds c.loop-var.cells c.loop-var.cells c.loop-var.course c.loop-var.course (c.loop-var.steps + 2 * (length c.args.moves.now - c.loop-var.var-index) + 1) (c.loop-var.steps + 2 * (length c.args.moves.now - c.loop-var.var-index) + 1) (get_or c.args.moves.now c.loop-var.var-index (record { solver = 0; index = 0 }, pos 0)) (drop (c.loop-var.var-index + 1) c.args.moves.now) are state in let many = c.requires.1.0.uses in omega (arith, inside, many)

pub settle-requires-clause-users : goal.settle-requires-clause-users
settle-requires-clause-users g c = c.requires.1.0.users (get_or c.args.moves.now c.loop-var.var-index (record { solver = 0; index = 0 }, pos 0)).0.index

pub loop-var-preserved : goal.loop-var-preserved
loop-var-preserved g c =
    let lt : c.loop-var.var-index < length c.args.moves.now = omega arith in
    let eq = drop_at c.args.moves.now c.loop-var.var-index (record { solver = 0; index = 0 }, pos 0) lt in
    let are = subst (λ (rest : List (VarId × ℤ)). AreMoves (graph_of g.given.rules c.args.frame.now) rest) eq (moves_left (graph_of g.given.rules c.args.frame.now) c.args.moves.now c.loop-var.var-index c.requires.1.1.0) in
    let state = subst (λ (rest : List (VarId × ℤ)). InCourse g.given.rules g.given.helds c.args.frame.now g.given.trace c.loop-var.cells c.loop-var.course (LaterThanMoves c.args.frame.now rest) (c.loop-var.steps + 2 * (length c.args.moves.now - c.loop-var.var-index) + 1)) eq c.loop-var.invariant.course in
    record {
      course = move_step g.given.rules c.args.frame.now g.given.trace c.requires.1.0 g.given.helds c.loop-var.cells c.settle.new.cells c.loop-var.course c.settle.new.course (c.loop-var.steps + 2 * (length c.args.moves.now - c.loop-var.var-index) + 1) (c.settle.new.steps + 2 * (length c.args.moves.now - (c.loop-var.var-index + 1)) + 1) (get_or c.args.moves.now c.loop-var.var-index (record { solver = 0; index = 0 }, pos 0)) (drop (c.loop-var.var-index + 1) c.args.moves.now) are state
          (c.requires.1.1.1.0 (get_or c.args.moves.now c.loop-var.var-index (record { solver = 0; index = 0 }, pos 0)).0.index ∙ target_at (graph_of g.given.rules c.args.frame.now) c.args.moves.now g.given.trace.before c.loop-var.var-index (record { solver = 0; index = 0 }, pos 0) c.requires.1.1.0 lt)
          (rw c.number_outcome.ensures at c.in_ok-settle.ensures.told) (rw c.number_outcome.ensures at c.in_ok-settle.ensures.cells)
          (rw c.number_outcome.ensures at c.in_ok-settle.ensures.lost.here) c.in_ok-settle.ensures.lost.elsewhere
          (rw c.number_outcome.ensures at c.in_ok-settle.ensures.change.here) c.in_ok-settle.ensures.change.elsewhere
          (let s = rw c.number_outcome.ensures at c.settle.ensures.steps in omega (arith, s, lt));
    }

pub returns-clause-course : goal.returns-clause-course
returns-clause-course g c =
    moves_over g.given.rules c.args.frame.now g.given.trace g.given.helds c.loop-var.cells c.loop-var.course (c.loop-var.steps + 2 * (length c.args.moves.now - c.loop-var.var-index) + 1) (c.loop-var.steps + 1) (omega arith)
    (subst (λ (rest : List (VarId × ℤ)). InCourse g.given.rules g.given.helds c.args.frame.now g.given.trace c.loop-var.cells c.loop-var.course (LaterThanMoves c.args.frame.now rest) (c.loop-var.steps + 2 * (length c.args.moves.now - c.loop-var.var-index) + 1)) (drop_all c.args.moves.now c.loop-var.var-index (omega arith)) c.loop-var.invariant.course)

pub returns-in_err-settle-clause-limit : goal.returns-in_err-settle-clause-limit
returns-in_err-settle-clause-limit g c = λ o meaning.
    let lt : c.loop-var.var-index < length c.args.moves.now = omega arith in
    let eq = drop_at c.args.moves.now c.loop-var.var-index (record { solver = 0; index = 0 }, pos 0) lt in
    let are = subst (λ (rest : List (VarId × ℤ)). AreMoves (graph_of g.given.rules c.args.frame.now) rest) eq (moves_left (graph_of g.given.rules c.args.frame.now) c.args.moves.now c.loop-var.var-index c.requires.1.1.0) in
    let state = subst (λ (rest : List (VarId × ℤ)). InCourse g.given.rules g.given.helds c.args.frame.now g.given.trace c.loop-var.cells c.loop-var.course (LaterThanMoves c.args.frame.now rest) (c.loop-var.steps + 2 * (length c.args.moves.now - c.loop-var.var-index) + 1)) eq c.loop-var.invariant.course in
    limit_move g.given.rules c.args.frame.now g.given.trace c.requires.1.0 g.given.helds c.loop-var.cells c.loop-var.cells c.loop-var.course c.loop-var.course (c.loop-var.steps + 2 * (length c.args.moves.now - c.loop-var.var-index) + 1) (c.loop-var.steps + 2 * (length c.args.moves.now - c.loop-var.var-index) + 1) (get_or c.args.moves.now c.loop-var.var-index (record { solver = 0; index = 0 }, pos 0)) (drop (c.loop-var.var-index + 1) c.args.moves.now) are state
    (c.requires.1.1.1.0 (get_or c.args.moves.now c.loop-var.var-index (record { solver = 0; index = 0 }, pos 0)).0.index ∙ target_at (graph_of g.given.rules c.args.frame.now) c.args.moves.now g.given.trace.before c.loop-var.var-index (record { solver = 0; index = 0 }, pos 0) c.requires.1.1.0 lt) o meaning c.settle.new.steps
    (let s = rw c.number_outcome.ensures at c.settle.ensures.steps in omega (arith, s, lt))

pub returns-clause-limit : goal.returns-clause-limit
returns-clause-limit g c = λ o meaning.
    let state = moves_over g.given.rules c.args.frame.now g.given.trace g.given.helds c.loop-var.cells c.loop-var.course (c.loop-var.steps + 2 * (length c.args.moves.now - c.loop-var.var-index) + 1) (c.loop-var.steps + 1) (omega arith)
    (subst (λ (rest : List (VarId × ℤ)). InCourse g.given.rules g.given.helds c.args.frame.now g.given.trace c.loop-var.cells c.loop-var.course (LaterThanMoves c.args.frame.now rest) (c.loop-var.steps + 2 * (length c.args.moves.now - c.loop-var.var-index) + 1)) (drop_all c.args.moves.now c.loop-var.var-index (omega arith)) c.loop-var.invariant.course) in
    let a = limit_course g.given.rules c.args.frame.now g.given.trace c.requires.1.0 g.given.helds c.loop-var.cells c.loop-var.course first_front (c.loop-var.steps + 1) state (omega arith) o meaning in
    omega (arith, a)
