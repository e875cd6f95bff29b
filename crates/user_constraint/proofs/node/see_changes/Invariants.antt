use Rattle.user_constraint.proofs.KeptLaws.{AreNewFit}
use Rattle.user_constraint.proofs.node.see_changes.Given as goal

abbrev pub invariant-loop-place : goal.invariant-loop-place
invariant-loop-place l = AreNewFit l.changes l.place
