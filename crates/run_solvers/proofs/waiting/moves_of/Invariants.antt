use Rattle.std.proofs.Common.{◌≡◌, ◌++◌, drop}
use Rattle.run_solvers.specs.Waiting.{moves_from}
use Rattle.run_solvers.proofs.waiting.moves_of.Given as goal

-- the moves so far, and then those of what is left, are all
abbrev pub invariant-loop-index : goal.invariant-loop-index
invariant-loop-index l = l.moves.items ++ moves_from l.solver l.index (drop l.index l.waiting) ≡ moves_from l.solver 0 l.waiting
