use Rattle.std.proofs.Common.{ap, sym, ◌∙◌}
use Rattle.solver_models.specs.FreeVariables.{numbers_at}
use Rattle.solver_models.proofs.FreeLaws.{numbers_pushed, place_same}
use Rattle.solver_models.proofs.free.free_numbers.Goals as goal

pub loop-index-preserved-then-mark_at : goal.loop-index-preserved-then-mark_at
loop-index-preserved-then-mark_at c =
    c.loop-index.invariant ∙ ap (numbers_at c.args.assignment.now) (sym (place_same c.args.marks.now c.loop-index.index (sym c.mark_at.ensures ∙ c.if-mark_at.true)))

pub loop-index-preserved : goal.loop-index-preserved
loop-index-preserved c =
    numbers_pushed c.args.marks.now c.args.assignment.now c.loop-index.index c.loop-index.numbers.items c.push_number.new.numbers.items (sym c.mark_at.ensures ∙ c.if-mark_at.false) c.loop-index.invariant c.in_ok-push_number.ensures
