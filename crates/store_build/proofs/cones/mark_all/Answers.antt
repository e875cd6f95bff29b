use Rattle.store_build.proofs.MarkSteps.{marks_one}
use Rattle.store_build.proofs.cones.mark_all.Goals as goal

pub loop-id-preserved : goal.loop-id-preserved
loop-id-preserved c = marks_one c.args.ids.now c.loop-id.id-index (record { 0 = 0 }) c.args.members.now.items c.loop-id.members.items c.mark.new.members.items c.args.stack.now.items c.loop-id.stack.items c.mark.new.stack.items c.loop-id-test.true c.loop-id.invariant c.in_ok-mark.ensures
