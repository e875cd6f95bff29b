use Rattle.run_outside.proofs.HandedLaws.{AreOthers}
use Rattle.run_outside.proofs.handed.is_known.Given as goal

-- none of those before it has the name
abbrev pub invariant-loop-user : goal.invariant-loop-user
invariant-loop-user g l = AreOthers l.name l.users l.user-index
