use Rattle.std.proofs.Common.{◌≡◌, ℤ, pos, true, ◌+◌, ◌*◌, ◌<◌, All, List, [], ◌∷◌, None, length, drop, get_or, map, sym, ap, ◌∙◌, subst, arith}
use Rattle.std.specs.BTreeMap.{get}
use Rattle.std.specs.Ordering.{nat_cmp}
use Rattle.cbl_base.specs.declared.ids.VarId.{VarId}
use Rattle.cbl_base.specs.Inputs.{kind_of}
use Rattle.cbl_base.specs.declared.input.Input.TheVariants.{Int}
use Rattle.store_turns.specs.declared.frame.Frame.{Frame}
use Rattle.store_turns.specs.declared.outcome.Outcome.TheVariants.{Value}
use Rattle.store_turns.specs.Cones.{has}
use Rattle.store_turns.specs.Meaning.{uses_in}
use Rattle.store_turns.specs.Waits.{waits}
use Rattle.inc_store.specs.Course.{first_front}
use Rattle.inc_store.specs.Moves.{AreMoves, LaterThanMoves, moved_to}
use Rattle.inc_store.proofs.MoveSteps.{drop_all}
use Rattle.trial.specs.Course.{InProbe}
use Rattle.trial.specs.Parts.{part_graph, value_in, moves_of}
use Rattle.trial.proofs.Imagined.{limit_state}
use Rattle.trial.proofs.OneMove.{inside, kind_asked_move, unlost_asked, limit_one, one_move, moves_done}
use Rattle.trial.proofs.PartMoves.{left_with, left_without, moves_left, goes_to}
use Rattle.trial.proofs.PartTurns.{small, told_part, noted_part, steps_part}
use Rattle.trial.proofs.moving.move_all.Goals as goal

pub loop-var-preserved-then-not-has : goal.loop-var-preserved-then-not-has
loop-var-preserved-then-not-has g c =
    let lt : c.loop-var.var-index < length c.args.moves.now = omega arith in
    let eq = left_without (has c.args.members.now) c.args.moves.now c.loop-var.var-index (record { solver = 0; index = 0 }, pos 0) lt (sym c.has.ensures ∙ c.if-not-has.true) in
    record { course = subst (λ (rest : List (VarId × ℤ)). InProbe g.query.part.rules g.query.part.frame g.query.part.cells g.query.ask c.loop-var.overlay (LaterThanMoves g.query.part.frame rest) (c.loop-var.steps + 2 * length rest + 4)) eq c.loop-var.invariant.course }

pub read-old-requires-clause-within : goal.read-old-requires-clause-within
read-old-requires-clause-within g c =
    let lt : c.loop-var.var-index < length c.args.moves.now = omega arith in
    let t : has c.args.members.now (get_or c.args.moves.now c.loop-var.var-index (record { solver = 0; index = 0 }, pos 0)).0.index ≡ true = sym c.has.ensures ∙ c.if-not-has.false in
    let eq = left_with (has c.args.members.now) c.args.moves.now c.loop-var.var-index (record { solver = 0; index = 0 }, pos 0) lt t in
    let are = subst (λ (rest : List (VarId × ℤ)). AreMoves (part_graph g.query.part) rest) eq (moves_left (has c.args.members.now) (part_graph g.query.part) c.args.moves.now c.loop-var.var-index (subst (λ (ms : List (VarId × ℤ)). AreMoves (part_graph g.query.part) ms) c.requires.1.1.1.1.1.0 c.requires.1.1.1.1.0)) in
    let state = subst (λ (rest : List (VarId × ℤ)). InProbe g.query.part.rules g.query.part.frame g.query.part.cells g.query.ask c.loop-var.overlay (LaterThanMoves g.query.part.frame rest) (c.loop-var.steps + 2 * length rest + 4)) eq c.loop-var.invariant.course in
    let low = small (map g.N.NodeRule.rule c.args.store.now.nodes.items) c.args.store.now.frame c.args.store.now.cells (has c.args.members.now) g.query.part c.requires.1.1.1.0 (get_or c.args.moves.now c.loop-var.var-index (record { solver = 0; index = 0 }, pos 0)).0.index (inside g.query.part.rules g.query.part.helds g.query.part.frame g.query.part.cells c.requires.1.1.1.0.kept g.query.ask c.loop-var.overlay (c.loop-var.steps + 2 * length ((get_or c.args.moves.now c.loop-var.var-index (record { solver = 0; index = 0 }, pos 0)) ∷ (moves_of (has c.args.members.now) (drop (c.loop-var.var-index + 1) c.args.moves.now))) + 4) (get_or c.args.moves.now c.loop-var.var-index (record { solver = 0; index = 0 }, pos 0)) (moves_of (has c.args.members.now) (drop (c.loop-var.var-index + 1) c.args.moves.now)) are state) in
    low

pub settle-requires-clause-kinds : goal.settle-requires-clause-kinds
settle-requires-clause-kinds g c =
    let lt : c.loop-var.var-index < length c.args.moves.now = omega arith in
    let t : has c.args.members.now (get_or c.args.moves.now c.loop-var.var-index (record { solver = 0; index = 0 }, pos 0)).0.index ≡ true = sym c.has.ensures ∙ c.if-not-has.false in
    let eq = left_with (has c.args.members.now) c.args.moves.now c.loop-var.var-index (record { solver = 0; index = 0 }, pos 0) lt t in
    let are = subst (λ (rest : List (VarId × ℤ)). AreMoves (part_graph g.query.part) rest) eq (moves_left (has c.args.members.now) (part_graph g.query.part) c.args.moves.now c.loop-var.var-index (subst (λ (ms : List (VarId × ℤ)). AreMoves (part_graph g.query.part) ms) c.requires.1.1.1.1.1.0 c.requires.1.1.1.1.0)) in
    let state = subst (λ (rest : List (VarId × ℤ)). InProbe g.query.part.rules g.query.part.frame g.query.part.cells g.query.ask c.loop-var.overlay (LaterThanMoves g.query.part.frame rest) (c.loop-var.steps + 2 * length rest + 4)) eq c.loop-var.invariant.course in
    let low = small (map g.N.NodeRule.rule c.args.store.now.nodes.items) c.args.store.now.frame c.args.store.now.cells (has c.args.members.now) g.query.part c.requires.1.1.1.0 (get_or c.args.moves.now c.loop-var.var-index (record { solver = 0; index = 0 }, pos 0)).0.index (inside g.query.part.rules g.query.part.helds g.query.part.frame g.query.part.cells c.requires.1.1.1.0.kept g.query.ask c.loop-var.overlay (c.loop-var.steps + 2 * length ((get_or c.args.moves.now c.loop-var.var-index (record { solver = 0; index = 0 }, pos 0)) ∷ (moves_of (has c.args.members.now) (drop (c.loop-var.var-index + 1) c.args.moves.now))) + 4) (get_or c.args.moves.now c.loop-var.var-index (record { solver = 0; index = 0 }, pos 0)) (moves_of (has c.args.members.now) (drop (c.loop-var.var-index + 1) c.args.moves.now)) are state) in
    let here = c.requires.1.1.1.0.inside (get_or c.args.moves.now c.loop-var.var-index (record { solver = 0; index = 0 }, pos 0)).0.index low t in
    λ x is. kind_asked_move g.query.part.rules g.query.part.helds g.query.part.frame g.query.part.cells c.requires.1.1.1.0.kept g.query.ask c.loop-var.overlay (c.loop-var.steps + 2 * length ((get_or c.args.moves.now c.loop-var.var-index (record { solver = 0; index = 0 }, pos 0)) ∷ (moves_of (has c.args.members.now) (drop (c.loop-var.var-index + 1) c.args.moves.now))) + 4) (get_or c.args.moves.now c.loop-var.var-index (record { solver = 0; index = 0 }, pos 0)) (moves_of (has c.args.members.now) (drop (c.loop-var.var-index + 1) c.args.moves.now)) are state x (sym c.number_outcome.ensures ∙ is) ∙ ap kind_of here.value ∙ ap kind_of (sym c.read-old.ensures.value)

pub settle-requires-clause-unlost : goal.settle-requires-clause-unlost
settle-requires-clause-unlost g c =
    let lt : c.loop-var.var-index < length c.args.moves.now = omega arith in
    let t : has c.args.members.now (get_or c.args.moves.now c.loop-var.var-index (record { solver = 0; index = 0 }, pos 0)).0.index ≡ true = sym c.has.ensures ∙ c.if-not-has.false in
    let eq = left_with (has c.args.members.now) c.args.moves.now c.loop-var.var-index (record { solver = 0; index = 0 }, pos 0) lt t in
    let are = subst (λ (rest : List (VarId × ℤ)). AreMoves (part_graph g.query.part) rest) eq (moves_left (has c.args.members.now) (part_graph g.query.part) c.args.moves.now c.loop-var.var-index (subst (λ (ms : List (VarId × ℤ)). AreMoves (part_graph g.query.part) ms) c.requires.1.1.1.1.1.0 c.requires.1.1.1.1.0)) in
    let state = subst (λ (rest : List (VarId × ℤ)). InProbe g.query.part.rules g.query.part.frame g.query.part.cells g.query.ask c.loop-var.overlay (LaterThanMoves g.query.part.frame rest) (c.loop-var.steps + 2 * length rest + 4)) eq c.loop-var.invariant.course in
    unlost_asked g.query.part.rules g.query.part.helds g.query.part.frame g.query.part.cells c.requires.1.1.1.0.kept g.query.ask c.loop-var.overlay (c.loop-var.steps + 2 * length ((get_or c.args.moves.now c.loop-var.var-index (record { solver = 0; index = 0 }, pos 0)) ∷ (moves_of (has c.args.members.now) (drop (c.loop-var.var-index + 1) c.args.moves.now))) + 4) (get_or c.args.moves.now c.loop-var.var-index (record { solver = 0; index = 0 }, pos 0)) (moves_of (has c.args.members.now) (drop (c.loop-var.var-index + 1) c.args.moves.now)) are state

pub settle-requires-clause-lists : goal.settle-requires-clause-lists
settle-requires-clause-lists g c =
    let lt : c.loop-var.var-index < length c.args.moves.now = omega arith in
    let t : has c.args.members.now (get_or c.args.moves.now c.loop-var.var-index (record { solver = 0; index = 0 }, pos 0)).0.index ≡ true = sym c.has.ensures ∙ c.if-not-has.false in
    let eq = left_with (has c.args.members.now) c.args.moves.now c.loop-var.var-index (record { solver = 0; index = 0 }, pos 0) lt t in
    let are = subst (λ (rest : List (VarId × ℤ)). AreMoves (part_graph g.query.part) rest) eq (moves_left (has c.args.members.now) (part_graph g.query.part) c.args.moves.now c.loop-var.var-index (subst (λ (ms : List (VarId × ℤ)). AreMoves (part_graph g.query.part) ms) c.requires.1.1.1.1.1.0 c.requires.1.1.1.1.0)) in
    let state = subst (λ (rest : List (VarId × ℤ)). InProbe g.query.part.rules g.query.part.frame g.query.part.cells g.query.ask c.loop-var.overlay (LaterThanMoves g.query.part.frame rest) (c.loop-var.steps + 2 * length rest + 4)) eq c.loop-var.invariant.course in
    let low = small (map g.N.NodeRule.rule c.args.store.now.nodes.items) c.args.store.now.frame c.args.store.now.cells (has c.args.members.now) g.query.part c.requires.1.1.1.0 (get_or c.args.moves.now c.loop-var.var-index (record { solver = 0; index = 0 }, pos 0)).0.index (inside g.query.part.rules g.query.part.helds g.query.part.frame g.query.part.cells c.requires.1.1.1.0.kept g.query.ask c.loop-var.overlay (c.loop-var.steps + 2 * length ((get_or c.args.moves.now c.loop-var.var-index (record { solver = 0; index = 0 }, pos 0)) ∷ (moves_of (has c.args.members.now) (drop (c.loop-var.var-index + 1) c.args.moves.now))) + 4) (get_or c.args.moves.now c.loop-var.var-index (record { solver = 0; index = 0 }, pos 0)) (moves_of (has c.args.members.now) (drop (c.loop-var.var-index + 1) c.args.moves.now)) are state) in
    let many = c.requires.1.1.0.2.framed.uses in
    let same = ap (λ (f : Frame). length f.uses.items) c.frame-frame.ensures in
    omega (arith, low, many, same)

pub settle-requires-clause-users : goal.settle-requires-clause-users
settle-requires-clause-users g c =
    subst (λ (f : Frame). All (λ u. u.0.0 < length f.layers.items) (uses_in f (get_or c.args.moves.now c.loop-var.var-index (record { solver = 0; index = 0 }, pos 0)).0.index)) (sym c.frame-frame.ensures) (c.requires.1.1.0.2.framed.users (get_or c.args.moves.now c.loop-var.var-index (record { solver = 0; index = 0 }, pos 0)).0.index)

pub loop-var-preserved : goal.loop-var-preserved
loop-var-preserved g c =
    let lt : c.loop-var.var-index < length c.args.moves.now = omega arith in
    let t : has c.args.members.now (get_or c.args.moves.now c.loop-var.var-index (record { solver = 0; index = 0 }, pos 0)).0.index ≡ true = sym c.has.ensures ∙ c.if-not-has.false in
    let eq = left_with (has c.args.members.now) c.args.moves.now c.loop-var.var-index (record { solver = 0; index = 0 }, pos 0) lt t in
    let are = subst (λ (rest : List (VarId × ℤ)). AreMoves (part_graph g.query.part) rest) eq (moves_left (has c.args.members.now) (part_graph g.query.part) c.args.moves.now c.loop-var.var-index (subst (λ (ms : List (VarId × ℤ)). AreMoves (part_graph g.query.part) ms) c.requires.1.1.1.1.1.0 c.requires.1.1.1.1.0)) in
    let state = subst (λ (rest : List (VarId × ℤ)). InProbe g.query.part.rules g.query.part.frame g.query.part.cells g.query.ask c.loop-var.overlay (LaterThanMoves g.query.part.frame rest) (c.loop-var.steps + 2 * length rest + 4)) eq c.loop-var.invariant.course in
    let low = small (map g.N.NodeRule.rule c.args.store.now.nodes.items) c.args.store.now.frame c.args.store.now.cells (has c.args.members.now) g.query.part c.requires.1.1.1.0 (get_or c.args.moves.now c.loop-var.var-index (record { solver = 0; index = 0 }, pos 0)).0.index (inside g.query.part.rules g.query.part.helds g.query.part.frame g.query.part.cells c.requires.1.1.1.0.kept g.query.ask c.loop-var.overlay (c.loop-var.steps + 2 * length ((get_or c.args.moves.now c.loop-var.var-index (record { solver = 0; index = 0 }, pos 0)) ∷ (moves_of (has c.args.members.now) (drop (c.loop-var.var-index + 1) c.args.moves.now))) + 4) (get_or c.args.moves.now c.loop-var.var-index (record { solver = 0; index = 0 }, pos 0)) (moves_of (has c.args.members.now) (drop (c.loop-var.var-index + 1) c.args.moves.now)) are state) in
    let here = c.requires.1.1.1.0.inside (get_or c.args.moves.now c.loop-var.var-index (record { solver = 0; index = 0 }, pos 0)).0.index low t in
    let share = steps_part (map g.N.NodeRule.rule c.args.store.now.nodes.items) c.args.store.now.frame c.args.store.now.cells (has c.args.members.now) g.query.part c.requires.1.1.1.0 (get_or c.args.moves.now c.loop-var.var-index (record { solver = 0; index = 0 }, pos 0)).0.index (Value (Int (get_or c.args.moves.now c.loop-var.var-index (record { solver = 0; index = 0 }, pos 0)).1)) low t in
    let value = here.value in
    record {
      course = one_move g.query.part.rules g.query.part.helds g.query.part.frame g.query.part.cells c.requires.1.1.1.0.kept g.query.ask c.loop-var.overlay (c.loop-var.steps + 2 * length ((get_or c.args.moves.now c.loop-var.var-index (record { solver = 0; index = 0 }, pos 0)) ∷ (moves_of (has c.args.members.now) (drop (c.loop-var.var-index + 1) c.args.moves.now))) + 4) (get_or c.args.moves.now c.loop-var.var-index (record { solver = 0; index = 0 }, pos 0)) (moves_of (has c.args.members.now) (drop (c.loop-var.var-index + 1) c.args.moves.now)) are state c.settle.new.overlay (c.settle.new.steps + 2 * length (moves_of (has c.args.members.now) (drop (c.loop-var.var-index + 1) c.args.moves.now)) + 4) (ap (λ (ms : List (VarId × ℤ)). moved_to ms (value_in g.query.part) (get_or c.args.moves.now c.loop-var.var-index (record { solver = 0; index = 0 }, pos 0)).0.index) c.requires.1.1.1.1.1.0 ∙ goes_to (has c.args.members.now) (part_graph g.query.part) c.args.moves.now (value_in g.query.part) c.loop-var.var-index (record { solver = 0; index = 0 }, pos 0) (subst (λ (ms : List (VarId × ℤ)). AreMoves (part_graph g.query.part) ms) c.requires.1.1.1.1.1.0 c.requires.1.1.1.1.0) lt t)
          (rw (sym value) at (told_part (map g.N.NodeRule.rule c.args.store.now.nodes.items) c.args.store.now.frame c.args.store.now.cells (has c.args.members.now) g.query.part c.requires.1.1.1.0 (get_or c.args.moves.now c.loop-var.var-index (record { solver = 0; index = 0 }, pos 0)).0.index _ (Value (Int (get_or c.args.moves.now c.loop-var.var-index (record { solver = 0; index = 0 }, pos 0)).1)) (waits c.loop-var.overlay.waiting) (waits c.settle.new.overlay.waiting) low (rw (c.frame-frame.ensures, c.read-old.ensures.value, c.number_outcome.ensures) at c.in_ok-settle.ensures.told)))
          (rw c.number_outcome.ensures at c.in_ok-settle.ensures.lost.here) c.in_ok-settle.ensures.lost.elsewhere
          (rw (c.read-old.ensures.value, c.number_outcome.ensures, sym value) at c.in_ok-settle.ensures.change.here) c.in_ok-settle.ensures.change.elsewhere
          (λ j. (rw c.frame-frame.ensures at c.in_ok-settle.ensures.roots) j ∙ noted_part (map g.N.NodeRule.rule c.args.store.now.nodes.items) c.args.store.now.frame c.args.store.now.cells (has c.args.members.now) g.query.part c.requires.1.1.1.0 (get_or c.args.moves.now c.loop-var.var-index (record { solver = 0; index = 0 }, pos 0)).0.index j None (get nat_cmp c.loop-var.overlay.roots j))
          (let s = rw (c.frame-frame.ensures, c.read-old.ensures.value, c.number_outcome.ensures) at c.settle.ensures.steps in omega (arith, s, share, c.read-old.ensures.steps, lt));
    }

pub returns-clause-course : goal.returns-clause-course
returns-clause-course g c =
    moves_done g.query.part.rules g.query.part.frame g.query.part.cells g.query.ask c.loop-var.overlay (c.loop-var.steps + 2 * length (moves_of (has c.args.members.now) []) + 4) (c.loop-var.steps + 4) (omega arith) (subst (λ (rest : List (VarId × ℤ)). InProbe g.query.part.rules g.query.part.frame g.query.part.cells g.query.ask c.loop-var.overlay (LaterThanMoves g.query.part.frame rest) (c.loop-var.steps + 2 * length rest + 4)) (ap (moves_of (has c.args.members.now)) (drop_all c.args.moves.now c.loop-var.var-index (omega arith))) c.loop-var.invariant.course)

pub returns-in_err-settle-clause-limit : goal.returns-in_err-settle-clause-limit
returns-in_err-settle-clause-limit g c =
    let lt : c.loop-var.var-index < length c.args.moves.now = omega arith in
    let t : has c.args.members.now (get_or c.args.moves.now c.loop-var.var-index (record { solver = 0; index = 0 }, pos 0)).0.index ≡ true = sym c.has.ensures ∙ c.if-not-has.false in
    let eq = left_with (has c.args.members.now) c.args.moves.now c.loop-var.var-index (record { solver = 0; index = 0 }, pos 0) lt t in
    let are = subst (λ (rest : List (VarId × ℤ)). AreMoves (part_graph g.query.part) rest) eq (moves_left (has c.args.members.now) (part_graph g.query.part) c.args.moves.now c.loop-var.var-index (subst (λ (ms : List (VarId × ℤ)). AreMoves (part_graph g.query.part) ms) c.requires.1.1.1.1.1.0 c.requires.1.1.1.1.0)) in
    let state = subst (λ (rest : List (VarId × ℤ)). InProbe g.query.part.rules g.query.part.frame g.query.part.cells g.query.ask c.loop-var.overlay (LaterThanMoves g.query.part.frame rest) (c.loop-var.steps + 2 * length rest + 4)) eq c.loop-var.invariant.course in
    let low = small (map g.N.NodeRule.rule c.args.store.now.nodes.items) c.args.store.now.frame c.args.store.now.cells (has c.args.members.now) g.query.part c.requires.1.1.1.0 (get_or c.args.moves.now c.loop-var.var-index (record { solver = 0; index = 0 }, pos 0)).0.index (inside g.query.part.rules g.query.part.helds g.query.part.frame g.query.part.cells c.requires.1.1.1.0.kept g.query.ask c.loop-var.overlay (c.loop-var.steps + 2 * length ((get_or c.args.moves.now c.loop-var.var-index (record { solver = 0; index = 0 }, pos 0)) ∷ (moves_of (has c.args.members.now) (drop (c.loop-var.var-index + 1) c.args.moves.now))) + 4) (get_or c.args.moves.now c.loop-var.var-index (record { solver = 0; index = 0 }, pos 0)) (moves_of (has c.args.members.now) (drop (c.loop-var.var-index + 1) c.args.moves.now)) are state) in
    let share = steps_part (map g.N.NodeRule.rule c.args.store.now.nodes.items) c.args.store.now.frame c.args.store.now.cells (has c.args.members.now) g.query.part c.requires.1.1.1.0 (get_or c.args.moves.now c.loop-var.var-index (record { solver = 0; index = 0 }, pos 0)).0.index (Value (Int (get_or c.args.moves.now c.loop-var.var-index (record { solver = 0; index = 0 }, pos 0)).1)) low t in
    limit_one g.query.part.rules g.query.part.helds g.query.part.frame g.query.part.cells c.requires.1.1.1.0.kept g.query.ask c.loop-var.overlay (c.loop-var.steps + 2 * length ((get_or c.args.moves.now c.loop-var.var-index (record { solver = 0; index = 0 }, pos 0)) ∷ (moves_of (has c.args.members.now) (drop (c.loop-var.var-index + 1) c.args.moves.now))) + 4) (get_or c.args.moves.now c.loop-var.var-index (record { solver = 0; index = 0 }, pos 0)) (moves_of (has c.args.members.now) (drop (c.loop-var.var-index + 1) c.args.moves.now)) are state (ap (λ (ms : List (VarId × ℤ)). moved_to ms (value_in g.query.part) (get_or c.args.moves.now c.loop-var.var-index (record { solver = 0; index = 0 }, pos 0)).0.index) c.requires.1.1.1.1.1.0 ∙ goes_to (has c.args.members.now) (part_graph g.query.part) c.args.moves.now (value_in g.query.part) c.loop-var.var-index (record { solver = 0; index = 0 }, pos 0) (subst (λ (ms : List (VarId × ℤ)). AreMoves (part_graph g.query.part) ms) c.requires.1.1.1.1.1.0 c.requires.1.1.1.1.0) lt t) c.settle.new.steps (let s = rw (c.frame-frame.ensures, c.read-old.ensures.value, c.number_outcome.ensures) at c.settle.ensures.steps in omega (arith, s, share, c.read-old.ensures.steps, lt))

pub returns-clause-limit : goal.returns-clause-limit
returns-clause-limit g c =
    limit_state g.query.part.rules g.query.part.helds g.query.part.frame g.query.part.cells c.requires.1.1.1.0.kept g.query.ask c.loop-var.overlay first_front (c.loop-var.steps + 4) (moves_done g.query.part.rules g.query.part.frame g.query.part.cells g.query.ask c.loop-var.overlay (c.loop-var.steps + 2 * length (moves_of (has c.args.members.now) []) + 4) (c.loop-var.steps + 4) (omega arith) (subst (λ (rest : List (VarId × ℤ)). InProbe g.query.part.rules g.query.part.frame g.query.part.cells g.query.ask c.loop-var.overlay (LaterThanMoves g.query.part.frame rest) (c.loop-var.steps + 2 * length rest + 4)) (ap (moves_of (has c.args.members.now)) (drop_all c.args.moves.now c.loop-var.var-index (omega arith))) c.loop-var.invariant.course)) (omega arith) c.loop-var.steps (omega arith)
