use Rattle.std.proofs.Common.{rules, ◌<◌}
use Rattle.term_model.specs.Depth.{depth_of}
use Rattle.term_model.proofs.Layers.{depth_below, vars_more, vars_of_layer}
use Rattle.term_model.proofs.definitions.+push_variables.Goals as goal

pub push_variables-requires : goal.push_variables-requires
push_variables-requires t c =
    let below : depth_of c.arg-item.result < depth_of c.args.term.now = depth_below c.args.term.now c.in-Node.op c.in-Node.args c.in-Node.place c.deref-arg-items.result.now c.loop-arg.arg-index c.arg-item.result c.in-Node.is c.deref-arg-items.ensures.value c.loop-arg-test.true c.arg-item.is in
    (search (rules, below), tt)

pub loop-arg-preserved : goal.loop-arg-preserved
loop-arg-preserved t c = vars_more c.deref-arg-items.result.now c.loop-arg.arg-index c.arg-item.result _ _ _ c.loop-arg-test.true c.arg-item.is c.loop-arg.invariant (search rules)

pub returns-after-loop-arg : goal.returns-after-loop-arg
returns-after-loop-arg t c = vars_of_layer c.args.term.now c.in-Node.op c.in-Node.args c.in-Node.place c.deref-arg-items.result.now c.loop-arg.arg-index _ _ c.in-Node.is c.deref-arg-items.ensures.value c.loop-arg-test.false c.loop-arg.invariant
