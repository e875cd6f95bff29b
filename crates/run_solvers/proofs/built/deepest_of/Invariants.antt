use Rattle.std.proofs.Common.{◌≡◌, map, take}
use Rattle.term_model.specs.Depth.{depth_of, greatest}
use Rattle.run_solvers.proofs.built.deepest_of.Given as goal

-- the deepest of those so far
abbrev pub invariant-loop-term : goal.invariant-loop-term
invariant-loop-term l = l.deepest ≡ greatest (map depth_of (take l.term-index l.terms))
