use Rattle.std.proofs.Common.{ap, map, sym, zip, ◌∙◌}
use Rattle.solver_models.specs.Unmarked.{id_in}
use Rattle.solver_models.proofs.FreeLaws.{moves_pushed, place_same}
use Rattle.solver_models.proofs.free.free_moves.Goals as goal

pub loop-index-preserved-then-mark_at : goal.loop-index-preserved-then-mark_at
loop-index-preserved-then-mark_at c =
    c.loop-index.invariant
    ∙ ap (λ ps. zip (map (id_in c.args.solver) ps) c.args.values.now) (sym (place_same c.args.marks.now c.loop-index.index (sym c.mark_at.ensures ∙ c.if-mark_at.true)))

pub loop-index-preserved : goal.loop-index-preserved
loop-index-preserved c =
    moves_pushed c.args.solver c.args.marks.now c.args.values.now c.loop-index.index c.loop-index.moves.items c.push_move.new.moves.items (sym c.mark_at.ensures ∙ c.if-mark_at.false) c.loop-index.invariant c.in_ok-push_move.ensures
