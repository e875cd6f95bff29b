use Rattle.run_outside.proofs.HandedLaws.{AreClosed}
use Rattle.run_outside.proofs.handed.first_free.Given as goal

-- none of those before it is open
abbrev pub invariant-loop-number : goal.invariant-loop-number
invariant-loop-number g l = AreClosed l.name l.users l.number
