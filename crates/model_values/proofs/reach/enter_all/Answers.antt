use Rattle.std.proofs.Common.{get_or, refl}
use Rattle.model_values.proofs.ReachLaws.{spread_one}
use Rattle.model_values.proofs.reach.enter_all.Goals as goal

pub loop-var-preserved : goal.loop-var-preserved
loop-var-preserved c =
    let vars = c.args.vars.now in
    let k = c.loop-var.var-index in
    spread_one vars k (get_or vars k 0) c.args.marks.now.items c.loop-var.marks.items c.enter.new.marks.items c.args.stack.now.items c.loop-var.stack.items c.enter.new.stack.items c.loop-var-test.true refl c.loop-var.invariant c.in_ok-enter.ensures
