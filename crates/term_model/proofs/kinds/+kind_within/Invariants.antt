use Rattle.std.proofs.Common.{take}
use Rattle.term_model.specs.Kinds.{kinds_in}
use Rattle.term_model.proofs.KindSteps.{AreSoFar}
use Rattle.term_model.proofs.kinds.+kind_within.Given as goal

abbrev pub invariant-loop-arg : goal.invariant-loop-arg
invariant-loop-arg l = AreSoFar (kinds_in l.vars) l.limit (take l.arg-index l.arg-items) l.kinds.items
