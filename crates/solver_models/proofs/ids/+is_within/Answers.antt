use Rattle.std.proofs.Common.{sym, ◌∙◌}
use Rattle.solver_models.proofs.TermLaws.{depth_beyond, depth_more, depth_within, le_from}
use Rattle.term_model.specs.Depth.{depth_of}
use Rattle.solver_models.proofs.ids.+is_within.Goals as goal

pub returns-then-not-is_within : goal.returns-then-not-is_within
returns-then-not-is_within t c =
    sym (depth_beyond c.args.term.now c.in-Node.op c.in-Node.args c.in-Node.place c.deref-arg-items.result.now c.loop-arg.arg-index c.arg-item.result c.args.limit
    c.in-Node.is c.deref-arg-items.ensures.value c.loop-arg-test.true c.arg-item.is c.if-limit-eq0.false (sym c.is_within.ensures ∙ c.if-not-is_within.true))

pub loop-arg-preserved : goal.loop-arg-preserved
loop-arg-preserved t c =
    depth_more c.deref-arg-items.result.now c.loop-arg.arg-index c.arg-item.result _ c.loop-arg-test.true c.arg-item.is c.loop-arg.invariant
    (le_from (depth_of c.arg-item.result) _ (sym c.is_within.ensures ∙ c.if-not-is_within.false))

pub returns-after-loop-arg : goal.returns-after-loop-arg
returns-after-loop-arg t c =
    sym (depth_within c.args.term.now c.in-Node.op c.in-Node.args c.in-Node.place c.deref-arg-items.result.now c.loop-arg.arg-index c.args.limit
    c.in-Node.is c.deref-arg-items.ensures.value c.loop-arg-test.false c.if-limit-eq0.false c.loop-arg.invariant)
