use Rattle.std.proofs.Common.{rules, subst}
use Rattle.user_constraint.proofs.KeptLaws.{AreNewFit, all_new}
use Rattle.user_constraint.proofs.node.see_changes.Goals as goal

pub returns : goal.returns
returns c = all_new c.args.changes.now (subst (AreNewFit c.args.changes.now) (search rules) c.loop-place.invariant)
