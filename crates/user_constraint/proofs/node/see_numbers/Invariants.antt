use Rattle.user_constraint.proofs.KeptLaws.{AreFit}
use Rattle.user_constraint.proofs.node.see_numbers.Given as goal

abbrev pub invariant-loop-place : goal.invariant-loop-place
invariant-loop-place l = AreFit l.numbers l.place
