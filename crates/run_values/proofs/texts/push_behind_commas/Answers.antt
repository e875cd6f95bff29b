use Rattle.run_values.proofs.CommaTexts.{part_behind}
use Rattle.run_values.proofs.texts.push_behind_commas.Goals as goal

pub loop-part-preserved : goal.loop-part-preserved
loop-part-preserved g c =
    part_behind g.T.Shown.shown c.args.parts.now _ _ _ _ _ _ c.loop-part-test.true c.part-item.is c.loop-part.invariant c.in_ok-push.ensures.items c.in_ok-push_shown.ensures.ok
